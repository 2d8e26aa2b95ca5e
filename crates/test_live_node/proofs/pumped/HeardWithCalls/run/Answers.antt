use Rattle.test_live_node.proofs.LawLemmas.{laws_there}
use Rattle.test_live_node.proofs.pumped.HeardWithCalls.run.Goals as goal

-- the callbacks that are handed in have the laws of all roles
pub hear-requires : goal.hear-requires
hear-requires g c = laws_there _ c.args.registries.items c.deref.result.now _ c.deref.ensures.value c.requires
