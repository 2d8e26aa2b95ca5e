use Rattle.std.proofs.Common.{◌≡◌, ◌++◌, length}
use Rattle.text_parts.specs.Left.{lines_left}
use Rattle.bench_nodes.specs.Scripts.{bad_node_line_in, first_bad_node_line, node_lines_in, nodes_script_of}
use Rattle.bench_nodes.proofs.script.read_nodes_script.Given as goal

-- what was asked so far and what the lines that are left ask make the whole; and no line before was bad
abbrev pub invariant-lines : goal.invariant-lines
invariant-lines l =
    (l.asked.items ++ node_lines_in l.nodes (lines_left l.left) ≡ nodes_script_of l.nodes l.text)
    × (bad_node_line_in l.nodes (lines_left l.left) ≡ first_bad_node_line l.nodes l.text)

-- each turn takes a line
abbrev pub decreases-lines : goal.decreases-lines
decreases-lines l = length (lines_left l.left)
