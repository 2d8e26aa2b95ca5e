use Rattle.std.proofs.Common.{length, ◌-◌}
use Rattle.image_text.proofs.ListingLemmas.{IsPrinted}
use Rattle.image_text.proofs.listing.put_code.Given as goal

-- the instructions before the offset are put
abbrev pub invariant-instructions : goal.invariant-instructions
invariant-instructions l = IsPrinted l.format l.program.image l.initial.out.items l.out.items l.at

abbrev pub decreases-instructions : goal.decreases-instructions
decreases-instructions l = length l.code - l.at
