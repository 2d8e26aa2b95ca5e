use Rattle.live_parts.proofs.ClockLemmas.{so-none}
use Rattle.live_parts.proofs.clock.ClockPart.new.Goals as goal

pub invariant_of-result : goal.invariant_of-result
invariant_of-result c = rw (c.new.ensures, c.new-2.ensures.empty, c.new-3.ensures, c.new-4.ensures) so-none
