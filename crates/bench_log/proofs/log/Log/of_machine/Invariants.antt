use Rattle.std.proofs.Common.{◌≡◌, take}
use Rattle.bench_log.specs.Moves.{places_of}
use Rattle.bench_log.proofs.log.Log.of_machine.Given as goal

abbrev pub invariant-loop-place : goal.invariant-loop-place
invariant-loop-place l = l.places.items ≡ places_of l.machine (take l.place l.self.entries)
