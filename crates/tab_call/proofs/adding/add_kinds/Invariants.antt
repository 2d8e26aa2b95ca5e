use Rattle.std.proofs.Common.{◌≡◌, ◌++◌, take}
use Rattle.tab_call.proofs.adding.add_kinds.Given as goal

abbrev pub invariant-loop-entry : goal.invariant-loop-entry
invariant-loop-entry l = l.book ≡ record l.initial.book { kinds = l.initial.book.kinds ++ take l.entry-index l.entry-items }
