use Rattle.std.proofs.Common.{◌∙◌}
use Rattle.cmd_live.proofs.LivesLemmas.{ended_by}
use Rattle.cmd_live.proofs.run.live_all.Goals as goal

-- something became of each
pub tell_all-requires : goal.tell_all-requires
tell_all-requires g c =
    rw (c.deref.ensures.value, c.deref-2.ensures.value)
    ((c.requires.together c.args.nodes.livings c.in_ok-lived.lived c.in_ok-lived.ensures).each ∙ c.requires.both)

-- and of each that is told
pub returns : goal.returns
returns g c =
    ended_by c.tell_all.result _ c.args.is_logged c.args.nodes.nodes.items
    c.args.nodes.livings c.in_ok-lived.lived (g.W.FileSink.files c.args.files.now) (g.W.FileSink.files c.tell_all.new.files)
    (g.W.FileSink.failed c.args.files.now) (g.W.FileSink.failed c.tell_all.new.files) c.in_ok-lived.ensures
    (c.requires.together c.args.nodes.livings c.in_ok-lived.lived c.in_ok-lived.ensures) (rw (c.deref.ensures.value, c.deref-2.ensures.value) at c.tell_all.ensures)
