use Rattle.std.proofs.Common.{take}
use Rattle.cmd_live.specs.Told.{AreTold}
use Rattle.cmd_live.proofs.told.tell_all.Given as goal

-- the nodes so far are told of
abbrev pub invariant-nodes : goal.invariant-nodes
invariant-nodes g l =
    AreTold l.is_logged (g.W.FileSink.files l.initial.files) (g.W.FileSink.failed l.initial.files) (take l.place l.nodes) (take l.place l.lived)
    l.told.text.items l.told.status (g.W.FileSink.files l.files) (g.W.FileSink.failed l.files)
