use Rattle.std.proofs.Common.{◌-◌, ◌^◌, vec_len}
use Rattle.bench_merge.specs.Heads.{Merging}
use Rattle.bench_merge.proofs.merging.merge.Given as goal

abbrev pub invariant-loop-next : goal.invariant-loop-next
invariant-loop-next l = Merging l.parts l.heads.items l.order.items l.last

abbrev pub decreases-loop-next : goal.decreases-loop-next
decreases-loop-next l = 2 ^ 64 - vec_len l.order
