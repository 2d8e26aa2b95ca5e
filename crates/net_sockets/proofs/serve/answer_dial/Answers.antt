use Rattle.net_sockets.proofs.TurnLemmas.{turned_handed}
use Rattle.net_sockets.proofs.serve.answer_dial.Goals as goal

-- the loss is handed on
pub returns-then-is_refused : goal.returns-then-is_refused
returns-then-is_refused g c = turned_handed g.N.Node.takes g.N.Node.moves _ _ _ _ _ _ _ c.lose.ensures.handed
