use Rattle.cmd_live.proofs.ToldLemmas.{written_where}
use Rattle.cmd_live.proofs.told.is_unwritten_where.Goals as goal

-- the files of the node
pub returns-then-is_logged : goal.returns-then-is_logged
returns-then-is_logged g c =
    written_where c.is_unwritten.result c.as_slice.result.now c.args.node.now c.args.core.now (g.W.FileSink.files c.args.files.now) (g.W.FileSink.files c.is_unwritten.new.files)
    (g.W.FileSink.failed c.args.files.now) (g.W.FileSink.failed c.is_unwritten.new.files) c.args.is_logged c.if-is_logged.true c.as_slice.ensures c.is_unwritten.ensures
