use Rattle.std.proofs.Common.{◌≡◌}
use Rattle.bench_node.specs.Going.{Goes}
use Rattle.bench_node.specs.Settled.{AreIdle, Went}
use Rattle.bench_node.specs.Timed.{LeavesTimers}
use Rattle.bench_node.proofs.node.LiveNode.work_all.Given as goal

-- steps were taken so far, or there was nothing to do
abbrev pub invariant-shards : goal.invariant-shards
invariant-shards g l = record {
  goes : Goes l.initial.self l.self;
  same : l.self.settings ≡ l.initial.self.settings;
  timed : LeavesTimers l.initial.self l.self;
  went : Went (AreIdle l.shard) l.went l.initial.self l.self;
}
