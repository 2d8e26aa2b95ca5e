use Rattle.std.proofs.Common.{◌≡◌}
use Rattle.bench_node.specs.Going.{Goes}
use Rattle.bench_node.specs.Settled.{AreLinesStill, Went}
use Rattle.bench_node.specs.Timed.{IsTimed}
use Rattle.bench_node.proofs.node.LiveNode.carry_lines.Given as goal

-- steps were taken so far, or there was nothing to do
abbrev pub invariant-lines : goal.invariant-lines
invariant-lines l = record {
  goes : Goes l.initial.self l.self;
  same : l.self.settings ≡ l.initial.self.settings;
  timed : IsTimed l.initial.self l.initial.timers l.self l.timers;
  went : Went (AreLinesStill l.line) l.went l.initial.self l.self;
}
