use Rattle.std.proofs.Common.{◌≡◌, ◌++◌}
use Rattle.std.specs.List.{flat_map, range_with_len}
use Rattle.image_text.specs.Listings.{entry_text}
use Rattle.image_text.proofs.listing.put_entries.Given as goal

-- the entries so far are put
abbrev pub invariant-loop-number : goal.invariant-loop-number
invariant-loop-number l = l.out.items ≡ l.initial.out.items ++ flat_map (entry_text l.program.image) (range_with_len 0 l.number)
