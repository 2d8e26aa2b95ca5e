use Rattle.std.proofs.Common.{◌≡◌, drop}
use Rattle.std.specs.Str.{bytes_eq}
use Rattle.step_text.specs.Guess.{unshown}
use Rattle.step_text.proofs.words.shows.Given as goal

-- what is left of the name is to be shown by what is left of the word
abbrev pub invariant-loop-c : goal.invariant-loop-c
invariant-loop-c l = bytes_eq (drop l.c-index l.name) (unshown l.left) ≡ bytes_eq l.name (unshown l.word)
