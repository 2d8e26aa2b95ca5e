use Rattle.std.proofs.Common.{◌≡◌}
use Rattle.bench_nodes.specs.Acts.{settings_of}
use Rattle.bench_nodes.specs.Settled.{Rounds, net}
use Rattle.bench_nodes.proofs.BoundLemmas.{room_of}
use Rattle.bench_nodes.proofs.settled.settle_all.Given as goal

-- rounds were made, and each led to all nodes settled
abbrev pub invariant-rounds : goal.invariant-rounds
invariant-rounds g l = record {
  same : settings_of l.nodes ≡ settings_of l.fn.nodes;
  rounds : Rounds l.cut (net l.fn.nodes l.fn.links.items l.fn.out.items) (net l.nodes l.links.items l.out.items);
}

-- each turn but the last adds an entry
abbrev pub decreases-rounds : goal.decreases-rounds
decreases-rounds g l = room_of l.nodes
