use Rattle.tick_wheel.proofs.OrderLemmas.{NotAfter-sorted}
use Rattle.live_parts.proofs.due.sort.Goals as goal

pub returns-clause-ordered : goal.returns-clause-ordered
returns-clause-ordered c = NotAfter-sorted c.sort_unstable.new.self.items c.sort_unstable.ensures.sorted
