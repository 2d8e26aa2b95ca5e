use Rattle.live_turns.proofs.LawLemmas.{laws_there}
use Rattle.live_turns.proofs.turns.LifeWithCalls.run.Goals as goal

-- the callbacks that are handed in have the laws of all roles
pub turn_all-requires : goal.turn_all-requires
turn_all-requires g c = laws_there _ c.args.registries.items c.deref.result.now _ c.deref.ensures.value c.requires
