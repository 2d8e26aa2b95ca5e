use Rattle.std.proofs.Common.{◌≡◌, ◌≤◌, [], max}
use Rattle.std.specs.Io.KnownBytes.{Appends}
use Rattle.base_device.proofs.output.write_some.Given as goal

-- the writes so far took nothing, and none failed
abbrev pub invariant-tries : goal.invariant-tries
invariant-tries g l =
    (g.O.ByteSink.idle l.sink ≡ l.counter)
    × (g.O.ByteSink.failures l.sink ≡ g.O.ByteSink.failures l.initial.sink)
    × Appends (g.O.ByteSink.contents l.initial.sink) (g.O.ByteSink.contents l.sink) []
    × (g.O.ByteSink.most_idle l.sink ≤ max (g.O.ByteSink.most_idle l.initial.sink) 1048576)
