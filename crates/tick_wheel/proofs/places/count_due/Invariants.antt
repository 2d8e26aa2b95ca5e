use Rattle.std.proofs.Common.{◌≡◌, ◌+◌, ◌<◌, ◌^◌, length}
use Rattle.tick_wheel.specs.Places.{firings_of}
use Rattle.tick_wheel.proofs.places.count_due.Given as goal

-- what was counted so far, with what is left to look at, is what there is
abbrev pub invariant-loop-owner : goal.invariant-loop-owner
invariant-loop-owner l = record {
  counted : l.count + length (firings_of l.now l.owner-iterator) ≡ length (firings_of l.now l.places.entries);
  few : l.count + length l.owner-iterator < 2 ^ 63;
}
