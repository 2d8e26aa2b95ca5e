use Rattle.std.proofs.Common.{rules, ◌<◌, length, []}
use Rattle.tab_step.proofs.MoveLemmas.{end_of-last}
use Rattle.tab_step.proofs.judging.end_of.Goals as goal

pub returns-else-is_empty : goal.returns-else-is_empty
returns-else-is_empty c =
    let some : 0 < length c.args.chain.now = search rules in
    end_of-last c.args.before.now c.args.chain.now [] some
