use Rattle.std.proofs.Common.{◌++◌, List, ℕ, ap}
use Rattle.bench_nodes.specs.Marked.{marked, marked_lines}
use Rattle.bench_nodes.proofs.marked.put_marked.Goals as goal

-- all lines are left
pub lines-init : goal.lines-init
unfolding marked
lines-init c = ap (λ (lines : List (List ℕ)). c.args.out.now.items ++ marked_lines c.args.word.now lines) c.new-lines.ensures.left
