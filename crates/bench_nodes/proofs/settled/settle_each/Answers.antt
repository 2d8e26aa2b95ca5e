use Rattle.std.proofs.Common.{◌∙◌, refl}
use Rattle.script_text.specs.declared.run_line.RunLine.TheVariants as runs
use Rattle.bench_nodes.specs.Settled.{net, none, one_more}
use Rattle.bench_nodes.proofs.ActLemmas.{does_keeps}
use Rattle.bench_nodes.proofs.settled.settle_each.Goals as goal

-- no node did
pub nodes-init : goal.nodes-init
nodes-init g c = record { same = refl; settled = λ links. none }

-- one more did
pub nodes-preserved : goal.nodes-preserved
nodes-preserved g c = record {
  same =
      does_keeps c.nodes.at c.nodes.nodes c.nodes.out.items c.do_at.new.nodes c.do_at.new.out.items runs.Settle c.in_ok-do_at.ensures
      ∙ c.nodes.invariant.same;
  settled = λ links.
      one_more (net c.nodes.nodes links c.nodes.out.items) (net c.do_at.new.nodes links c.do_at.new.out.items) c.nodes.at (c.nodes.invariant.settled links)
      (record { acts = c.in_ok-do_at.ensures; kept = refl });
}
