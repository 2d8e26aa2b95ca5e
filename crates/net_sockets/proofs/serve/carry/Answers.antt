use Rattle.net_sockets.proofs.TurnLemmas.{turned_handed}
use Rattle.net_sockets.proofs.serve.carry.Goals as goal

-- what was read is handed on
pub returns-in-Ok : goal.returns-in-Ok
returns-in-Ok g c = turned_handed g.N.Node.takes g.N.Node.moves _ _ _ _ _ _ _ c.pump.ensures.heard.3.handed

pub returns-in-Err : goal.returns-in-Err
returns-in-Err g c = turned_handed g.N.Node.takes g.N.Node.moves _ _ _ _ _ _ _ c.pump.ensures.heard.3.handed
