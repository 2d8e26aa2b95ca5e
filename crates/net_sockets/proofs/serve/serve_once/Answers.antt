use Rattle.net_sockets.proofs.TurnLemmas.{turned_handed}
use Rattle.net_sockets.proofs.serve.serve_once.Goals as goal

-- the loss is handed on
pub returns-in-Gone : goal.returns-in-Gone
returns-in-Gone g c = turned_handed g.N.Node.takes g.N.Node.moves _ _ _ _ _ _ _ c.lose.ensures.handed
