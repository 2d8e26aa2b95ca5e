use Rattle.bench_node.proofs.GoingLemmas.{goes_on}
use Rattle.bench_node.proofs.node.LiveNode.pass.Goals as goal

-- the steps of each part, one part behind the other
pub returns-in_err-by_work-clause-goes : goal.returns-in_err-by_work-clause-goes
returns-in_err-by_work-clause-goes g c =
    let clock = goes_on c.args.self.now c.carry_busy.new.self c.carry.new.self c.carry_busy.ensures.goes c.carry.ensures.goes in
    let desks = goes_on c.args.self.now c.carry.new.self c.carry_desks.new.self clock c.carry_desks.ensures.goes in
    let shards = goes_on c.args.self.now c.carry_desks.new.self c.carry_shards.new.self desks c.carry_shards.ensures.goes in
    goes_on c.args.self.now c.carry_shards.new.self c.work_all.new.self shards c.work_all.ensures.goes

pub returns-clause-goes : goal.returns-clause-goes
returns-clause-goes g c =
    let clock = goes_on c.args.self.now c.carry_busy.new.self c.carry.new.self c.carry_busy.ensures.goes c.carry.ensures.goes in
    let desks = goes_on c.args.self.now c.carry.new.self c.carry_desks.new.self clock c.carry_desks.ensures.goes in
    let shards = goes_on c.args.self.now c.carry_desks.new.self c.carry_shards.new.self desks c.carry_shards.ensures.goes in
    goes_on c.args.self.now c.carry_shards.new.self c.work_all.new.self shards c.work_all.ensures.goes
