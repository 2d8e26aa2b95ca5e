use Rattle.bench_world.proofs.BookLemmas.{each-has}
use Rattle.bench_world.proofs.world.World.work.Goals as goal

pub take_work-requires-clause-laws : goal.take_work-requires-clause-laws
take_work-requires-clause-laws g c = rw (c.deref.ensures.value) (each-has _ _ _ _ c.args.self.now.laws)
