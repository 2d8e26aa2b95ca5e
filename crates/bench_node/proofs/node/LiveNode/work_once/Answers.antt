use Rattle.bench_item.specs.declared.step.Step.TheVariants.{Work}
use Rattle.bench_node.proofs.GoingLemmas.{goes_by}
use Rattle.bench_node.proofs.TimedLemmas.{leaves_work}
use Rattle.bench_node.proofs.WentLemmas.{took_by, went_by}
use Rattle.bench_node.proofs.node.LiveNode.work_once.Goals as goal

-- the step, or none
pub returns-clause-goes : goal.returns-clause-goes
returns-clause-goes g c =
    goes_by c.try_work.result c.args.self.now c.try_work.new.self (Work c.args.shard) c.try_work.ensures.ok c.try_work.ensures.err

pub returns-clause-went : goal.returns-clause-went
returns-clause-went g c =
    went_by c.is_taken.result c.args.self.now c.try_work.new.self (Work c.args.shard)
    (took_by c.try_work.result c.is_taken.result c.args.self.now c.try_work.new.self (Work c.args.shard) c.is_taken.ensures.yes
    c.is_taken.ensures.no c.try_work.ensures.ok c.try_work.ensures.fault c.try_work.ensures.err)

pub returns-clause-timed : goal.returns-clause-timed
returns-clause-timed g c = leaves_work c.args.shard c.args.self.now c.try_work.new.self c.try_work.result c.try_work.ensures.ok c.try_work.ensures.err
