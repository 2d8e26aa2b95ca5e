use Rattle.std.proofs.Common.{◌≡◌, length}
use Rattle.text_parts.specs.Pieces.{words_left}
use Rattle.event_text.specs.Wrong.{no_fact}
use Rattle.event_text.proofs.wrong.no_fact.Given as goal

-- the words so far are facts
abbrev pub invariant-loop-word : goal.invariant-loop-word
invariant-loop-word l = no_fact (words_left l.words) ≡ no_fact (words_left l.initial.words)

-- each turn takes a word
abbrev pub decreases-loop-word : goal.decreases-loop-word
decreases-loop-word l = length (words_left l.words)
