use Rattle.std.proofs.Common.{◌≡◌, length}
use Rattle.text_parts.specs.Pieces.{pieces_left}
use Rattle.step_text.specs.Guess.{facts_in, put_all}
use Rattle.step_text.proofs.words.facts_in.Given as goal

-- the facts of the words that are left are still to be put
abbrev pub invariant-loop-word : goal.invariant-loop-word
invariant-loop-word l = put_all (pieces_left l.words) l.facts ≡ facts_in (pieces_left l.initial.words)

abbrev pub decreases-loop-word : goal.decreases-loop-word
decreases-loop-word l = length (pieces_left l.words)
