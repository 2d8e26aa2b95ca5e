use Rattle.std.proofs.Common.{◌≡◌, take}
use Rattle.bench_log.proofs.moved.show_chain.Given as goal

abbrev pub invariant-loop-regs : goal.invariant-loop-regs
invariant-loop-regs l = l.plain.items ≡ take l.regs-index l.kept
