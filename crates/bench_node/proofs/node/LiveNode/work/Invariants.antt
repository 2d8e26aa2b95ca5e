use Rattle.std.proofs.Common.{◌≡◌, ◌<◌, length}
use Rattle.bench_node.specs.Going.{Goes}
use Rattle.bench_node.specs.Timed.{LeavesTimers}
use Rattle.bench_node.proofs.node.LiveNode.work.Given as goal

-- steps were taken so far, one at least, and nothing else
abbrev pub invariant-items : goal.invariant-items
invariant-items g l = record {
  goes : Goes l.fn.self l.self;
  same : l.self.settings ≡ l.fn.self.settings;
  timed : LeavesTimers l.fn.self l.self;
  grew : length l.fn.self.log < length l.self.log;
}
