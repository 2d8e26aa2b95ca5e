use Rattle.std.proofs.Common.{◌∷◌, []}
use Rattle.live_report.specs.Files.{config_file}
use Rattle.node_logs.specs.Logs.{log_file}
use Rattle.live_report.proofs.FileLemmas.{then_more}
use Rattle.live_report.proofs.files.write_node.Goals as goal

-- the CONFIG behind the log
pub returns-clause-written : goal.returns-clause-written
returns-clause-written g c =
    let files = g.F.FileSink.files in
    then_more c.write_config.result (files c.args.files.now) (files c.write_log.new.files) (files c.write_config.new.files)
    (log_file c.args.host.now c.args.core.now ∷ []) (config_file c.args.host.now c.args.node.now ∷ [])
    c.in_ok-write_log.ensures.written c.write_config.ensures.written
