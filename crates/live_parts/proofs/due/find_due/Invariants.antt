use Rattle.std.proofs.Common.{◌≡◌, ◌++◌}
use Rattle.tick_wheel.specs.Places.{firings_of}
use Rattle.live_parts.specs.Clocks.{places_of}
use Rattle.live_parts.proofs.due.find_due.Given as goal

-- what was found so far, with what is left to look at, is what there is
abbrev pub invariant-loop-owner : goal.invariant-loop-owner
invariant-loop-owner l = l.due.items ++ firings_of l.now (places_of l.wheel.armed l.owner-iterator) ≡ firings_of l.now (places_of l.wheel.armed l.keys.entries)
