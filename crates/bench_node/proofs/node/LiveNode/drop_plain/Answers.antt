use Rattle.bench_item.specs.declared.step.Step.TheVariants.{Drop}
use Rattle.bench_node.proofs.GoingLemmas.{goes_by}
use Rattle.bench_node.proofs.WentLemmas.{took_by}
use Rattle.bench_node.proofs.node.LiveNode.drop_plain.Goals as goal

-- the step, or none
pub returns-clause-goes : goal.returns-clause-goes
returns-clause-goes c =
    goes_by c.try_drop.result c.args.self.now c.try_drop.new.self (Drop c.args.source) c.try_drop.ensures.ok c.try_drop.ensures.err

pub returns-clause-took : goal.returns-clause-took
returns-clause-took c =
    took_by c.try_drop.result c.is_taken.result c.args.self.now c.try_drop.new.self (Drop c.args.source) c.is_taken.ensures.yes
    c.is_taken.ensures.no c.try_drop.ensures.ok c.try_drop.ensures.fault c.try_drop.ensures.err
