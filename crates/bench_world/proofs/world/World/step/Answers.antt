use Rattle.bench_world.proofs.BookLemmas.{each-has}
use Rattle.bench_world.proofs.world.World.step.Goals as goal

pub step-requires-clause-laws : goal.step-requires-clause-laws
step-requires-clause-laws g c = rw (c.deref.ensures.value) (each-has _ _ _ _ c.args.self.now.laws)
