use Rattle.std.proofs.Common.{◌≡◌, drop}
use Rattle.cmd_live.specs.Nodes.{has_host}
use Rattle.cmd_live.proofs.twice.has_host.Given as goal

-- it is among those that are left, if it is among all
abbrev pub invariant-nodes : goal.invariant-nodes
invariant-nodes l = has_host l.host l.nodes ≡ has_host l.host (drop l.node-index l.nodes)
