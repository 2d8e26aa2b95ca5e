use Rattle.std.proofs.Common.{◌≡◌, ◌++◌, map, take}
use Rattle.tab_role.specs.Entries.{guard_of}
use Rattle.tab_role.proofs.book.add_guards.Given as goal

abbrev pub invariant-loop-name : goal.invariant-loop-name
invariant-loop-name l = l.book ≡ record l.initial.book { guards = l.initial.book.guards ++ map guard_of (take l.name-index l.entries) }
