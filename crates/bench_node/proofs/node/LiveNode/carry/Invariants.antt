use Rattle.std.proofs.Common.{◌≡◌, ◌<◌, length}
use Rattle.bench_node.specs.Going.{Goes}
use Rattle.bench_node.specs.Timed.{IsTimed}
use Rattle.bench_node.proofs.node.LiveNode.carry.Given as goal

-- steps were taken so far, one at least, and nothing else
abbrev pub invariant-carries : goal.invariant-carries
invariant-carries l = record {
  goes : Goes l.fn.self l.self;
  same : l.self.settings ≡ l.fn.self.settings;
  timed : IsTimed l.fn.self l.fn.timers l.self l.timers;
  grew : length l.fn.self.log < length l.self.log;
}
