use Rattle.std.proofs.Common.{◌≡◌, ◌-◌, length}
use Rattle.std.specs.List.{range_with_len}
use Rattle.bench_nodes.specs.Crossings.{first_in, of_node, of_nodes}
use Rattle.bench_nodes.proofs.dials.of_nodes.Given as goal

-- nothing comes of the nodes before
abbrev pub invariant-nodes : goal.invariant-nodes
invariant-nodes l =
    first_in (of_node l.nodes l.links) (range_with_len l.at (length l.nodes - l.at)) ≡ of_nodes l.nodes l.links
