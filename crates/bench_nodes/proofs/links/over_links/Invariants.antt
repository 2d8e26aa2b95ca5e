use Rattle.std.proofs.Common.{◌≡◌, ◌-◌, length}
use Rattle.std.specs.List.{range_with_len}
use Rattle.bench_nodes.specs.Crossings.{first_in, over_links, over_place}
use Rattle.bench_nodes.proofs.links.over_links.Given as goal

-- nothing comes over the connections before
abbrev pub invariant-links : goal.invariant-links
invariant-links l =
    first_in (over_place l.cut l.nodes l.links) (range_with_len l.place (length l.links - l.place)) ≡ over_links l.cut l.nodes l.links
