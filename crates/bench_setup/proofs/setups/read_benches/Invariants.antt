use Rattle.std.proofs.Common.{◌≡◌, ◌≤◌, ◌+◌, ◌*◌, ◌++◌, length, map}
use Rattle.bench_setup.specs.Setups.{AreReadInTurn}
use Rattle.bench_setup.proofs.setups.read_benches.Given as goal

-- the nodes that are not left were read, with four inputs each at most
abbrev pub invariant-nodes : goal.invariant-nodes
invariant-nodes g l = record {
  sound : g.I.ByteSource.failures l.source ≡ g.I.ByteSource.failures l.initial.source;
  made : g.I.ByteSource.reads l.initial.source ≤ g.I.ByteSource.reads l.source;
  reads : g.I.ByteSource.reads l.source ≤ g.I.ByteSource.reads l.initial.source + 4194304 * length l.setups.items;
  few : length l.setups.items + length l.left.rest.items ≤ 64;
  nodes : map (λ setup. setup.node) l.setups.items ++ l.left.rest.items ≡ l.initial.left.rest.items;
  in_turn : AreReadInTurn g.I.ByteSource.remaining g.I.ByteSource.reads g.I.ByteSource.failures l.initial.source l.setups.items l.source;
}

abbrev pub decreases-nodes : goal.decreases-nodes
decreases-nodes g l = l.left.rest.len
