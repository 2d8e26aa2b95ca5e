use Rattle.std.proofs.Common.{◌≡◌, ◌-◌, ◌∙◌, ℕ, Option, ap, arith, length, sym}
use Rattle.std.specs.List.{range_with_len}
use Rattle.bench_nodes.specs.Crossings.{first_in, over_links, over_place}
use Rattle.bench_nodes.specs.declared.node.Crossing.{Crossing}
use Rattle.bench_nodes.proofs.FirstLemmas.{from_here, from_past}
use Rattle.bench_nodes.proofs.links.over_links.Goals as goal

-- all are left
pub links-init : goal.links-init
unfolding over_links
links-init c =
    let e : length c.args.links.now - 0 ≡ length c.args.links.now = omega arith in
    ap (λ (k : ℕ). first_in (over_place c.args.cut c.args.nodes.now c.args.links.now) (range_with_len 0 k)) e

-- it is this one's
pub returns-then-is_some : goal.returns-then-is_some
returns-then-is_some c =
    let f : ℕ → Option Crossing = over_place c.args.cut c.args.nodes.now c.args.links.now in
    from_here f c.links.place (length c.args.links.now) c.in_ok-crossing.crossing (omega arith) c.in_ok-crossing.ensures (sym c.is_some.ensures ∙ c.if-is_some.true)
    ∙ c.links.invariant

-- or one behind it
pub links-preserved : goal.links-preserved
links-preserved c =
    let f : ℕ → Option Crossing = over_place c.args.cut c.args.nodes.now c.args.links.now in
    sym (from_past f c.links.place (length c.args.links.now) c.in_ok-crossing.crossing (omega arith) c.in_ok-crossing.ensures (sym c.is_some.ensures ∙ c.if-is_some.false))
    ∙ c.links.invariant
