use Rattle.std.proofs.Common.{◌+◌, ◌∙◌, ℕ, Option, arith, sym}
use Rattle.bench_nodes.specs.Crossings.{of_line}
use Rattle.bench_nodes.specs.declared.node.Crossing.{Crossing}
use Rattle.bench_nodes.proofs.FirstLemmas.{from_past}
use Rattle.bench_nodes.proofs.dials.of_node.Goals as goal

-- nothing comes of this line
pub lines-preserved : goal.lines-preserved
lines-preserved c =
    let f : ℕ → Option Crossing = λ (line : ℕ). of_line c.args.nodes.now c.args.links.now (record { node = c.args.at; line = line }) in
    sym (from_past f (c.lines.place + 1) (c.lines_of-count.result + 1) c.in_ok-crossing.crossing (omega arith) c.in_ok-crossing.ensures (sym c.is_some.ensures ∙ c.if-is_some.false))
    ∙ c.lines.invariant
