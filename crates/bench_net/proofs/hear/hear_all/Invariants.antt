use Rattle.std.proofs.Common.{◌≡◌, ◌≤◌, ℕ, ◌+◌, ◌*◌, false, List, length}
use Rattle.std.specs.List.{concat}
use Rattle.bench_net.specs.Pipes.{IsEmpty, waiting}
use Rattle.bench_net.specs.Readings.{Hears}
use Rattle.bench_net.proofs.hear.hear_all.Given as goal

-- each turn made one read, no call failed or would have had to wait, and what was read was handed on
abbrev pub invariant-turns : goal.invariant-turns
invariant-turns g l =
    IsEmpty l.pipe
    × (g.I.ByteSource.reads l.source ≡ g.I.ByteSource.reads l.initial.source + l.turn)
    × (g.I.ByteSource.failures l.source ≡ g.I.ByteSource.failures l.initial.source)
    × (g.I.ByteSource.blocked l.source ≡ g.I.ByteSource.blocked l.initial.source)
    × (l.read ≤ l.turn * 4096)
    × (l.pipe.out ≡ l.initial.pipe.out)
    × (pieces : List (List ℕ))
    × (length (concat pieces) ≡ l.read)
    × Hears g.P.Port.takes g.P.Port.refuses g.P.Port.sent g.I.ByteSource.remaining l.initial.port l.port (waiting l.initial.pipe) (waiting l.pipe) l.initial.source l.source pieces false
