use Rattle.std.proofs.Common.{subst, sym}
use Rattle.bench_spec.specs.Legal.{IsLegal}
use Rattle.bench_spec.proofs.LegalLemmas.{IsLegal-front}
use Rattle.bench_world.proofs.world.World.is_legal_at_each_place.Goals as goal

pub returns : goal.returns
returns g c front rest same =
    IsLegal-front c.args.self.now.core.settings front rest (subst (IsLegal c.args.self.now.core.settings) (sym same) c.known.ensures)
