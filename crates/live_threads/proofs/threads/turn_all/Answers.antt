use Rattle.std.proofs.Common.{◌∙◌}
use Rattle.live_threads.proofs.LifeLemmas.{same_turned}
use Rattle.live_threads.proofs.threads.turn_all.Goals as goal

-- what the node did of itself, and then its sockets
pub returns-in_err-turn : goal.returns-in_err-turn
returns-in_err-turn g c = same_turned _ _ c.turn.ensures ∙ c.moves.ensures.goes.same ∙ c.loop.invariant

pub loop-preserved : goal.loop-preserved
loop-preserved g c = same_turned _ _ c.turn.ensures ∙ c.moves.ensures.goes.same ∙ c.loop.invariant
