use Rattle.std.proofs.Common.{◌≡◌, ◌++◌, take}
use Rattle.role_tables.proofs.roles.add_kinds.Given as goal

-- so many are added, in order
abbrev pub invariant-loop-entry : goal.invariant-loop-entry
invariant-loop-entry l = l.book ≡ record l.initial.book { kinds = l.initial.book.kinds ++ take l.entry-index l.entry-items }
