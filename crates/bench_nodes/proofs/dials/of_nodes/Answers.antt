use Rattle.std.proofs.Common.{◌≡◌, ◌-◌, ◌∙◌, ℕ, Option, ap, arith, length, sym}
use Rattle.std.specs.List.{range_with_len}
use Rattle.bench_nodes.specs.Crossings.{first_in, of_node, of_nodes}
use Rattle.bench_nodes.specs.declared.node.Crossing.{Crossing}
use Rattle.bench_nodes.proofs.FirstLemmas.{from_here, from_past}
use Rattle.bench_nodes.proofs.dials.of_nodes.Goals as goal

-- all are left
pub nodes-init : goal.nodes-init
unfolding of_nodes
nodes-init c =
    let e : length c.args.nodes.now - 0 ≡ length c.args.nodes.now = omega arith in
    ap (λ (k : ℕ). first_in (of_node c.args.nodes.now c.args.links.now) (range_with_len 0 k)) e

-- it is this one's
pub returns-then-is_some : goal.returns-then-is_some
returns-then-is_some c =
    let f : ℕ → Option Crossing = of_node c.args.nodes.now c.args.links.now in
    from_here f c.nodes.at (length c.args.nodes.now) c.in_ok-crossing.crossing (omega arith) c.in_ok-crossing.ensures (sym c.is_some.ensures ∙ c.if-is_some.true)
    ∙ c.nodes.invariant

-- or one behind it
pub nodes-preserved : goal.nodes-preserved
nodes-preserved c =
    let f : ℕ → Option Crossing = of_node c.args.nodes.now c.args.links.now in
    sym (from_past f c.nodes.at (length c.args.nodes.now) c.in_ok-crossing.crossing (omega arith) c.in_ok-crossing.ensures (sym c.is_some.ensures ∙ c.if-is_some.false))
    ∙ c.nodes.invariant
