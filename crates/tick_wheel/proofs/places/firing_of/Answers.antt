use Rattle.std.proofs.Common.{rules}
use Rattle.tick_wheel.proofs.places.firing_of.Goals as goal

pub returns-else-due-now : goal.returns-else-due-now
returns-else-due-now c = search rules
