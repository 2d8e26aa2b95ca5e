use Rattle.std.proofs.Common.{◌≡◌, subst, sym}
use Rattle.bench_item.specs.declared.step.Step.TheVariants.{Lost}
use Rattle.bench_spec.specs.Taken.{Run}
use Rattle.bench_node.specs.Going.{Goes}
use Rattle.bench_node.proofs.GoingLemmas.{goes_by}
use Rattle.bench_node.proofs.node.LiveNode.lose_unreachable.Goals as goal

-- it is lost, and nothing else
pub returns-clause-goes : goal.returns-clause-goes
returns-clause-goes c =
    let view = c.self.view_is in
    let same : c.self.inside.core ≡ c.lost.new.self = cc in
    subst (λ (run : Run). Goes c.args.self.now run) (sym same)
    (goes_by c.lost.result c.args.self.now c.lost.new.self (Lost c.args.line) c.lost.ensures.taken c.lost.ensures.err)
