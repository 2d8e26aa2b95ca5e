use Rattle.std.proofs.Common.{◌≡◌, ◌≤◌, ◌+◌, ◌*◌}
use Rattle.bench_net.specs.Pipes.{waiting}
use Rattle.bench_net.specs.Writings.{Sends}
use Rattle.bench_net.proofs.send.send.Given as goal

-- each turn made one write, no call failed or would have had to wait, and what was written stands in what the port sent
abbrev pub invariant-turns : goal.invariant-turns
invariant-turns g l =
    (l.initial.turn ≤ l.turn)
    × (g.O.ByteSink.writes l.sink + l.initial.turn ≡ g.O.ByteSink.writes l.initial.sink + l.turn)
    × (g.O.ByteSink.failures l.sink ≡ g.O.ByteSink.failures l.initial.sink)
    × (g.O.ByteSink.blocked l.sink ≡ g.O.ByteSink.blocked l.initial.sink)
    × (g.O.ByteSink.idle l.sink + l.initial.turn ≤ g.O.ByteSink.idle l.initial.sink + l.turn)
    × (l.written + l.initial.turn * 4096 ≤ l.turn * 4096)
    × (waiting l.pipe ≡ waiting l.initial.pipe)
    × (l.pipe.losing ≡ l.initial.pipe.losing)
    × (l.pipe.kept ≡ l.initial.pipe.kept)
    × Sends g.P.Port.sent g.O.ByteSink.contents l.port l.initial.pipe.out l.pipe.out l.initial.sink l.sink l.written
