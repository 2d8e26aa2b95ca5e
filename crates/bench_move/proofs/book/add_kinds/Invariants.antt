use Rattle.std.proofs.Common.{◌≡◌, ◌++◌, take}
use Rattle.bench_move.proofs.book.add_kinds.Given as goal

abbrev pub invariant-loop-entry : goal.invariant-loop-entry
invariant-loop-entry l = l.copy ≡ record l.initial.copy { kinds = l.initial.copy.kinds ++ take l.entry-index l.entry-items }
