use Rattle.cmd_live.proofs.RefusalLemmas.{unready_err}
use Rattle.cmd_live.proofs.opening.open.Goals as goal

-- a desk of the bench that was just opened can't tell a text
pub returns-clause-refused : goal.returns-clause-refused
returns-clause-refused c =
    unready_err c.args.place c.args.node.now c.args.bench _ c.node_of.result c.in_ok-core.ensures.opened c.node_of.ensures.refused
