use Rattle.std.proofs.Common.{◌≡◌, ◌≤◌, ◌+◌, ◌*◌, ℕ, List, None, max}
use Rattle.std.specs.Io.KnownBytes.{Appends, Consumes}
use Rattle.msg_input.specs.Readings.{SoFar}
use Rattle.msg_input.proofs.read.pour.Given as goal

-- no call failed, each turn made one read, and what was read is taken and its lines written out
abbrev pub invariant-reads : goal.invariant-reads
invariant-reads g l =
    (g.I.ByteSource.reads l.source ≡ g.I.ByteSource.reads l.initial.source + l.counter)
    × (g.I.ByteSource.failures l.source ≡ g.I.ByteSource.failures l.initial.source)
    × (g.O.ByteSink.idle l.sink ≡ 0)
    × (g.O.ByteSink.failures l.sink ≡ g.O.ByteSink.failures l.initial.sink)
    × (g.O.ByteSink.most_idle l.sink ≤ max (g.O.ByteSink.most_idle l.initial.sink) 1048576)
    × (l.reading.characters ≤ l.counter * 65536)
    × (read : List ℕ) × (written : List ℕ)
    × Consumes (g.I.ByteSource.remaining l.initial.source) (g.I.ByteSource.remaining l.source) read
    × Appends (g.O.ByteSink.contents l.initial.sink) (g.O.ByteSink.contents l.sink) written
    × SoFar (g.M.Printer.Says l.glossary None) 0 l.reading read written None
