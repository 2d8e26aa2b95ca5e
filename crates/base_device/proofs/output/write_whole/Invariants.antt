use Rattle.std.proofs.Common.{◌≡◌, ◌≤◌, ◌-◌, length, take, max}
use Rattle.std.specs.Io.KnownBytes.{Appends}
use Rattle.base_device.proofs.output.write_whole.Given as goal

-- the octets so far were taken, and no write failed
abbrev pub invariant-pieces : goal.invariant-pieces
invariant-pieces g l =
    (l.at ≤ length l.octets)
    × (g.O.ByteSink.idle l.sink ≡ 0)
    × (g.O.ByteSink.failures l.sink ≡ g.O.ByteSink.failures l.initial.sink)
    × Appends (g.O.ByteSink.contents l.initial.sink) (g.O.ByteSink.contents l.sink) (take l.at l.octets)
    × (g.O.ByteSink.most_idle l.sink ≤ max (g.O.ByteSink.most_idle l.initial.sink) 1048576)

abbrev pub decreases-pieces : goal.decreases-pieces
decreases-pieces g l = length l.octets - l.at
