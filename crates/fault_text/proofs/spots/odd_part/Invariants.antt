use Rattle.std.proofs.Common.{◌≡◌, length}
use Rattle.std.specs.List.{find}
use Rattle.text_parts.specs.Pieces.{pieces_in, pieces_left}
use Rattle.fault_text.specs.Spots.{is_odd}
use Rattle.fault_text.proofs.spots.odd_part.Given as goal

-- each part before is a name
abbrev pub invariant-loop-part : goal.invariant-loop-part
invariant-loop-part l = find is_odd (pieces_left l.parts) ≡ find is_odd (pieces_in 44 l.word)

-- each turn takes a part
abbrev pub decreases-loop-part : goal.decreases-loop-part
decreases-loop-part l = length (pieces_left l.parts)
