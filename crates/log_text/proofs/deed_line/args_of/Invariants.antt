use Rattle.std.proofs.Common.{◌≡◌, length}
use Rattle.text_parts.specs.Pieces.{pieces_left}
use Rattle.log_text.specs.DeedLines.{args_of, behind_stop, put_args, stop_of}
use Rattle.log_text.proofs.deed_line.args_of.Given as goal

-- the numbers of the words that are left are still to be put
abbrev pub invariant-loop-word : goal.invariant-loop-word
invariant-loop-word l =
    (put_args (pieces_left l.words) l.a l.n ≡ args_of (pieces_left l.initial.words))
    × (stop_of (pieces_left l.words) ≡ stop_of (pieces_left l.initial.words))
    × (behind_stop (pieces_left l.words) ≡ behind_stop (pieces_left l.initial.words))

abbrev pub decreases-loop-word : goal.decreases-loop-word
decreases-loop-word l = length (pieces_left l.words)
