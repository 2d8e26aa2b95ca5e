use Rattle.bench_node.proofs.GoingLemmas.{goes_on}
use Rattle.node_port.proofs.TurnLemmas.{turned_goes}
use Rattle.live_turns.proofs.turns.turn_all.Goals as goal

-- what the node did of itself, and then its sockets
pub returns-in_err-turn : goal.returns-in_err-turn
returns-in_err-turn g c =
    goes_on _ _ _ c.loop.invariant (goes_on _ _ _ c.stir.ensures.goes (turned_goes _ _ c.turn.ensures))

pub loop-preserved : goal.loop-preserved
loop-preserved g c =
    goes_on _ _ _ c.loop.invariant (goes_on _ _ _ c.stir.ensures.goes (turned_goes _ _ c.turn.ensures))
