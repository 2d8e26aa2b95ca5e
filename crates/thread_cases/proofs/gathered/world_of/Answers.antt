use Rattle.std.proofs.Common.{ap}
use Rattle.thread_cases.proofs.gathered.world_of.Goals as goal

pub gather-requires-clause-opening : goal.gather-requires-clause-opening
gather-requires-clause-opening g c = ap (λ w. w.log) c.in-Ok.ensures.ok.1
