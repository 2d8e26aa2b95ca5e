use Rattle.std.proofs.Common.{◌≡◌, take}
use Rattle.bench_log.proofs.moved.keep_deeds.Given as goal

abbrev pub invariant-loop-deed : goal.invariant-loop-deed
invariant-loop-deed l = l.kept.items ≡ take l.deed-index l.plain
