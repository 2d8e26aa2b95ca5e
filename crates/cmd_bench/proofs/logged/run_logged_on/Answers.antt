use Rattle.cmd_bench.proofs.LoggedLemmas.{logs_told}
use Rattle.cmd_bench.proofs.logged.run_logged_on.Goals as goal

-- the nodes ran, and that is told
pub returns-in-Ok-clause-run : goal.returns-in-Ok-clause-run
returns-in-Ok-clause-run g c =
    logs_told g.O.ByteSink.contents g.O.ByteSink.failures g.O.ByteSink.idle g.F.FileSink.files g.F.FileSink.failed _ c.args.cut c.args.setups.items c.args.script.now c.args.shown
    c.in-Ok.ended.nodes.items c.in-Ok.ended.run.text.items c.in-Ok.ended.run.refused c.args.sink.now c.tell_ended.new.sink c.args.files.now c.tell_ended.new.files c.tell_ended.result
    c.in-Ok.ensures c.tell_ended.ensures.told
