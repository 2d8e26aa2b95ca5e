use Rattle.std.proofs.Common.{◌≡◌, ◌+◌, ◌-◌}
use Rattle.std.specs.List.{range_with_len}
use Rattle.bench_nodes.specs.Crossings.{first_in, of_line, of_node}
use Rattle.bench_nodes.proofs.dials.of_node.Given as goal

-- nothing comes of the lines before
abbrev pub invariant-lines : goal.invariant-lines
invariant-lines l =
    first_in (λ line. of_line l.nodes l.links (record { node = l.at; line = line })) (range_with_len (l.place + 1) (l.count + 1 - (l.place + 1)))
    ≡ of_node l.nodes l.links l.at
