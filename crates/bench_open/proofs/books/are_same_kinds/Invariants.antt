use Rattle.std.proofs.Common.{◌≡◌, take}
use Rattle.bench_open.proofs.books.are_same_kinds.Given as goal

abbrev pub invariant-loop-i : goal.invariant-loop-i
invariant-loop-i l = take l.i l.one ≡ take l.i l.other
