-- What is printed of nodes at the end.
use Rattle.std.specs.Prelude.{ℕ, List}
use Rattle.std.specs.List.{flat_map}
use Rattle.bench_script.specs.Ends.{lines_text, totals_text}
use Rattle.step_text.specs.Names.{shown}
use Rattle.bench_nodes.specs.Marked.{marked}
use Rattle.bench_nodes.specs.declared.node.Node.{Node}

-- where the lines of a node stand and what they sent, behind its host
abbrev pub node_lines : Node → List ℕ
node_lines node = marked (shown node.host) (lines_text node.core)

-- what stands on its accounts
abbrev pub node_totals : Node → List ℕ
node_totals node = marked (shown node.host) (totals_text node.core node.accounts.items)

-- of all nodes, in their order
abbrev pub lines_told : List Node → List ℕ
lines_told nodes = flat_map node_lines nodes

abbrev pub totals_told : List Node → List ℕ
totals_told nodes = flat_map node_totals nodes
