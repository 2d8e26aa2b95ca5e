use Rattle.std.proofs.Common.{◌≡◌, length}
use Rattle.text_parts.specs.Words.{trimmed_front}
use Rattle.text_parts.proofs.spelling.trimmed_front.Given as goal

abbrev pub invariant-loop-octets : goal.invariant-loop-octets
invariant-loop-octets l = trimmed_front l.octets ≡ trimmed_front l.fn.octets

abbrev pub decreases-loop-octets : goal.decreases-loop-octets
decreases-loop-octets l = length l.octets
