use Rattle.std.proofs.Common.{true}
use Rattle.std.specs.Arc.{arc_value}
use Rattle.bench_desk.proofs.WorkLemmas.{IsKept-paused}
use Rattle.bench_desk.proofs.part.ShardPart.pause.Goals as goal

pub invariant_of-self : goal.invariant_of-self
invariant_of-self c =
    let i = c.self.inside in
    rw c.pause.ensures (IsKept-paused (arc_value i.roles) i.shard i.sources.items i.log.entries true c.self.invariant.0, c.self.invariant.1)
