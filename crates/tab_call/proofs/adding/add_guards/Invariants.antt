use Rattle.std.proofs.Common.{◌≡◌, ◌++◌, take}
use Rattle.tab_call.proofs.adding.add_guards.Given as goal

abbrev pub invariant-loop-entry : goal.invariant-loop-entry
invariant-loop-entry l = l.book ≡ record l.initial.book { guards = l.initial.book.guards ++ take l.entry-index l.entry-items }
