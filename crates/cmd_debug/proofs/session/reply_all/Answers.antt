use Rattle.cmd_debug.proofs.SessionLemmas.{IsSession-next}
use Rattle.cmd_debug.proofs.session.reply_all.Goals as goal

-- one command more
pub lines-preserved : goal.lines-preserved
lines-preserved g c = (
  IsSession-next _ _ _ c.args.lines.now c.lines.line-index _ _ _ _ _ c.lines-test.true c.line-item.is c.as_slice.ensures c.lines.invariant.0 c.in_ok-reply_to.ensures.replied,
  c.in_ok-reply_to.ensures.by,
)
