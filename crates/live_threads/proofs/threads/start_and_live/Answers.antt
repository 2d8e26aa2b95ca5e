use Rattle.std.proofs.Common.{refl}
use Rattle.live_threads.proofs.threads.start_and_live.Goals as goal

-- nothing is in the way
pub live_started-requires : goal.live_started-requires
live_started-requires g c = c.in_default.ensures.opening refl
