use Rattle.std.proofs.Common.{◌≡◌, ◌++◌, map, take}
use Rattle.tab_role.specs.Entries.{act_of}
use Rattle.tab_role.proofs.book.add_acts.Given as goal

abbrev pub invariant-loop-name : goal.invariant-loop-name
invariant-loop-name l = l.book ≡ record l.initial.book { acts = l.initial.book.acts ++ map act_of (take l.name-index l.entries) }
