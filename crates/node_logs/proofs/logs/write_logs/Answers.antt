use Rattle.std.proofs.Common.{◌≡◌, ℕ, ◌+◌, ◌-◌, ◌++◌, ◌∙◌, ◌∷◌, [], ap, arith, drop, map, reverse, sym}
use Rattle.std.specs.Prelude.{get_or}
use Rattle.bench_nodes.specs.declared.node.Node.{Node}
use Rattle.node_logs.specs.Files.{with_files}
use Rattle.node_logs.specs.Logs.{log_of}
use Rattle.node_logs.proofs.FileLemmas.{one_before, with_more}
use Rattle.node_logs.proofs.logs.write_logs.Goals as goal

pub nodes-preserved : goal.nodes-preserved
nodes-preserved g c =
    let written = g.F.FileSink.files c.args.files.now in
    let node = c.index-nodes-left.result in
    let nodes = c.args.nodes.now in
    let there : get_or nodes (c.nodes.left - 1) node ≡ node = sym c.index-nodes-left.is in
    let again : c.nodes.left - 1 + 1 ≡ c.nodes.left = omega (arith, c.nodes-test.true) in
    let parts : map log_of (reverse (drop (c.nodes.left - 1) nodes))
    ≡ map log_of (reverse (drop (c.nodes.left - 1 + 1) nodes)) ++ log_of (get_or nodes (c.nodes.left - 1) node) ∷ [] =
    one_before {X = Node} log_of nodes (c.nodes.left - 1) node (omega (arith, c.nodes.invariant.within, c.nodes-test.true)) in
    let order : map log_of (reverse (drop (c.nodes.left - 1) nodes)) ≡ map log_of (reverse (drop c.nodes.left nodes)) ++ log_of node ∷ [] =
    parts ∙ ap (λ (n : ℕ). map log_of (reverse (drop n nodes)) ++ log_of (get_or nodes (c.nodes.left - 1) node) ∷ []) again
    ∙ ap (λ (x : Node). map log_of (reverse (drop c.nodes.left nodes)) ++ log_of x ∷ []) there in
    record {
      within = omega (arith, c.nodes.invariant.within);
      written = c.in_ok-write_node.ensures.written ∙ ap (λ w. with_files w (log_of node ∷ [])) c.nodes.invariant.written
          ∙ with_more written (map log_of (reverse (drop c.nodes.left nodes))) (log_of node ∷ []) ∙ ap (with_files written) (sym order);
      kept = c.in_ok-write_node.ensures.kept ∙ c.nodes.invariant.kept;
    }
