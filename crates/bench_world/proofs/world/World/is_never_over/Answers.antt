use Rattle.bench_spec.proofs.BookLemmas.{IsLegal-never_over}
use Rattle.bench_world.proofs.world.World.is_never_over.Goals as goal

pub returns : goal.returns
returns g c = IsLegal-never_over c.args.self.now.core.settings c.args.self.now.core.log c.known.ensures
