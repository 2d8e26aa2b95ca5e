use Rattle.std.proofs.Common.{◌≡◌, length}
use Rattle.text_parts.specs.Pieces.{words_left}
use Rattle.fault_text.specs.Spots.{odd_among, odd_word}
use Rattle.fault_text.proofs.spots.odd_word.Given as goal

-- each word before is a name
abbrev pub invariant-loop-word : goal.invariant-loop-word
invariant-loop-word l = odd_among (words_left l.words) ≡ odd_word l.octets

-- each turn takes a word
abbrev pub decreases-loop-word : goal.decreases-loop-word
decreases-loop-word l = length (words_left l.words)
