use Rattle.bench_spec.proofs.OwnLemmas.{IsLegal-own}
use Rattle.bench_world.proofs.world.World.each_is_own_run.Goals as goal

pub returns : goal.returns
returns g c key = IsLegal-own c.args.self.now.core.settings c.args.self.now.core.log c.known.ensures key
