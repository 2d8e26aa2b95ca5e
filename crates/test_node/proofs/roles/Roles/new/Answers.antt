use Rattle.std.proofs.Common.{subst}
use Rattle.tab_step.specs.Bind.{IsBoundTo}
use Rattle.test_node.proofs.roles.Roles.new.Goals as goal

-- src/roles.rt:66:9
pub invariant_of-result : goal.invariant_of-result
invariant_of-result g c = record {
  peer_is_bound = subst (IsBoundTo c.in_ok-peer.peer) c.laws-book.ensures c.in_ok-peer.ensures;
  server_is_bound = subst (IsBoundTo c.in_ok-server.server) c.laws-book.ensures c.in_ok-server.ensures;
}
