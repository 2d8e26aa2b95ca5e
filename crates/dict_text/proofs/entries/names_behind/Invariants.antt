use Rattle.std.proofs.Common.{◌≡◌, [], length}
use Rattle.text_parts.specs.Pieces.{words_left}
use Rattle.dict_text.specs.Entries.{names_behind}
use Rattle.dict_text.specs.Words.{said}
use Rattle.dict_text.proofs.entries.names_behind.Given as goal

-- the names so far and those of the words that are left are those of all words
abbrev pub invariant-loop-word : goal.invariant-loop-word
invariant-loop-word l = names_behind [] (said (words_left l.initial.words)) ≡ names_behind l.names.items (said (words_left l.words))

-- each turn takes a word
abbrev pub decreases-loop-word : goal.decreases-loop-word
decreases-loop-word l = length (said (words_left l.words))
