use Rattle.std.proofs.Common.{◌≡◌, drop}
use Rattle.cmd_live.specs.Nodes.{first_twice}
use Rattle.cmd_live.proofs.twice.first_twice.Given as goal

-- the first of those that are left is the first of all
abbrev pub invariant-nodes : goal.invariant-nodes
invariant-nodes l = first_twice l.nodes ≡ first_twice (drop l.place l.nodes)
