use Rattle.std.proofs.Common.{◌≡◌, length}
use Rattle.text_parts.specs.Pieces.{words_left, pieces_left}
use Rattle.text_parts.proofs.pieces.Words.next.Given as goal

abbrev pub invariant-loop-octets : goal.invariant-loop-octets
invariant-loop-octets l = words_left l.self ≡ words_left l.initial.self

abbrev pub decreases-loop-octets : goal.decreases-loop-octets
decreases-loop-octets l = length (pieces_left l.self.pieces)
