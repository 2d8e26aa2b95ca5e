use Rattle.std.proofs.Common.{sym}
use Rattle.std.specs.Str.{bytes_eq}
use Rattle.std.proofs.lemmas.Iterator.Adapters.{position_from-zero}
use Rattle.step_text.specs.Names.{shown}
use Rattle.bench_nodes.specs.declared.node.Node.{Node}
use Rattle.bench_nodes.proofs.script.node_named.Goals as goal

-- all nodes are left
pub nodes-init : goal.nodes-init
nodes-init c = sym (position_from-zero (λ (node : Node). bytes_eq (shown node.host) c.args.word.now) c.args.nodes.now)
