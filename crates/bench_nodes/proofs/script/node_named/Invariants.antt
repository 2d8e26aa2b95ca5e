use Rattle.std.proofs.Common.{◌≡◌, drop}
use Rattle.std.specs.List.{position_from}
use Rattle.std.specs.Str.{bytes_eq}
use Rattle.step_text.specs.Names.{shown}
use Rattle.bench_nodes.specs.Scripts.{node_named}
use Rattle.bench_nodes.proofs.script.node_named.Given as goal

-- no node before has that name
abbrev pub invariant-nodes : goal.invariant-nodes
invariant-nodes l =
    position_from (λ node. bytes_eq (shown node.host) l.word) l.place (drop l.place l.nodes) ≡ node_named l.nodes l.word
