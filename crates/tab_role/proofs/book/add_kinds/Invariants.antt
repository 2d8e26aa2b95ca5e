use Rattle.std.proofs.Common.{◌≡◌, ◌++◌, map, take}
use Rattle.tab_role.specs.Entries.{kind_of}
use Rattle.tab_role.proofs.book.add_kinds.Given as goal

abbrev pub invariant-loop-name : goal.invariant-loop-name
invariant-loop-name l = l.book ≡ record l.initial.book { kinds = l.initial.book.kinds ++ map kind_of (take l.name-index l.names) }
