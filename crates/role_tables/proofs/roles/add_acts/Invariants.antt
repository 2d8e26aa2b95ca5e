use Rattle.std.proofs.Common.{◌≡◌, ◌++◌, take}
use Rattle.role_tables.proofs.roles.add_acts.Given as goal

-- so many are added, in order
abbrev pub invariant-loop-entry : goal.invariant-loop-entry
invariant-loop-entry l = l.book ≡ record l.initial.book { acts = l.initial.book.acts ++ take l.entry-index l.entry-items }
