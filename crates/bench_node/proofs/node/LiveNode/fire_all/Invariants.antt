use Rattle.std.proofs.Common.{◌≡◌, take}
use Rattle.bench_node.specs.Firings.{FireAll}
use Rattle.bench_node.specs.Going.{Goes}
use Rattle.bench_node.proofs.node.LiveNode.fire_all.Given as goal

-- the timers so far fired, where they could
abbrev pub invariant-firings : goal.invariant-firings
invariant-firings g l = record {
  goes : Goes l.initial.self l.self;
  same : l.self.settings ≡ l.initial.self.settings;
  fire : FireAll l.initial.self l.self (take l.firing-index l.due);
}
