use Rattle.std.proofs.Common.{◌≡◌, ◌≤◌, ◌-◌, length}
use Rattle.bench_node.specs.Going.{Goes}
use Rattle.bench_node.specs.Settled.{Says}
use Rattle.bench_node.specs.Timed.{IsTimed}
use Rattle.bench_node.proofs.node.LiveNode.settle.Given as goal

-- each pass so far added an entry
abbrev pub invariant-passes : goal.invariant-passes
invariant-passes g l = record {
  goes : Goes l.initial.self l.self;
  same : l.self.settings ≡ l.initial.self.settings;
  timed : IsTimed l.initial.self l.initial.timers l.self l.timers;
  many : l.passes ≤ length l.self.log;
  says : Says l.moved l.initial.self l.self;
}

abbrev pub decreases-passes : goal.decreases-passes
decreases-passes g l = 1048576 - l.passes
