use Rattle.std.proofs.Common.{◌≡◌}
use Rattle.bench_node.specs.Going.{Goes}
use Rattle.bench_node.specs.Settled.{AreDesksStill, Went}
use Rattle.bench_node.specs.Timed.{IsTimed}
use Rattle.bench_node.proofs.node.LiveNode.carry_desks.Given as goal

-- steps were taken so far, or there was nothing to do
abbrev pub invariant-desks : goal.invariant-desks
invariant-desks l = record {
  goes : Goes l.initial.self l.self;
  same : l.self.settings ≡ l.initial.self.settings;
  timed : IsTimed l.initial.self l.initial.timers l.self l.timers;
  went : Went (AreDesksStill l.desk) l.went l.initial.self l.self;
}
