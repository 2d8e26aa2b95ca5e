use Rattle.std.proofs.Common.{◌≡◌, drop}
use Rattle.base_list.specs.Named.{entry_of}
use Rattle.step_text.specs.Guess.{unshown}
use Rattle.step_text.proofs.guess.number_of.Given as goal

-- the key is among those that are left
abbrev pub invariant-loop-entry : goal.invariant-loop-entry
invariant-loop-entry l = entry_of (unshown l.word) (drop l.entry-index l.entry-items) ≡ entry_of (unshown l.word) l.machines
