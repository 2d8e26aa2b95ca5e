use Rattle.bench_node.proofs.GoingLemmas.{goes_by}
use Rattle.bench_node.proofs.node.LiveNode.take.Goals as goal

-- the step, or none
pub returns-clause-goes : goal.returns-clause-goes
returns-clause-goes g c =
    goes_by c.try_step.result c.args.self.now c.try_step.new.self c.args.step c.try_step.ensures.ok c.try_step.ensures.err
