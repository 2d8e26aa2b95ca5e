use Rattle.std.proofs.Common.{◌≡◌}
use Rattle.bench_node.specs.Going.{Goes}
use Rattle.bench_node.specs.Settled.{AreShardsStill, Went}
use Rattle.bench_node.specs.Timed.{IsTimed}
use Rattle.bench_node.proofs.node.LiveNode.carry_shards.Given as goal

-- steps were taken so far, or there was nothing to do
abbrev pub invariant-shards : goal.invariant-shards
invariant-shards l = record {
  goes : Goes l.initial.self l.self;
  same : l.self.settings ≡ l.initial.self.settings;
  timed : IsTimed l.initial.self l.initial.timers l.self l.timers;
  went : Went (AreShardsStill l.shard) l.went l.initial.self l.self;
}
