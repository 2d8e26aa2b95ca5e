use Rattle.std.proofs.Common.{◌≡◌, ◌++◌, take}
use Rattle.bench_move.proofs.book.add_guards.Given as goal

abbrev pub invariant-loop-entry : goal.invariant-loop-entry
invariant-loop-entry l = l.copy ≡ record l.initial.copy { guards = l.initial.copy.guards ++ take l.entry-index l.entry-items }
