use Rattle.std.proofs.Common.{◌≡◌}
use Rattle.bench_node.specs.Going.{Goes}
use Rattle.bench_node.specs.Settled.{Says}
use Rattle.bench_node.specs.Timed.{IsTimed}
use Rattle.bench_node.proofs.node.LiveNode.carry_busy.Given as goal

-- steps were taken so far, or none was
abbrev pub invariant-lines : goal.invariant-lines
invariant-lines l = record {
  goes : Goes l.initial.self l.self;
  same : l.self.settings ≡ l.initial.self.settings;
  timed : IsTimed l.initial.self l.initial.timers l.self l.timers;
  says : Says l.went l.initial.self l.self;
}
