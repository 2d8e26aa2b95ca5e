use Rattle.std.proofs.Common.{◌≡◌, ◌≤◌, ◌+◌, ℕ, List, max}
use Rattle.std.specs.Io.KnownBytes.{Appends, Consumes}
use Rattle.base_dialog.specs.Dialogs.{HasAnswered}
use Rattle.base_dialog.specs.Lines.{IsLine}
use Rattle.base_dialog.proofs.pour.pour.Given as goal

-- no call failed, each turn made one read, and the lines of what was read are answered, and the answers written out
abbrev pub invariant-reads : goal.invariant-reads
invariant-reads g l =
    (g.I.ByteSource.reads l.source ≡ g.I.ByteSource.reads l.initial.source + l.counter)
    × (g.I.ByteSource.failures l.source ≡ g.I.ByteSource.failures l.initial.source)
    × (g.O.ByteSink.idle l.sink ≡ 0)
    × (g.O.ByteSink.failures l.sink ≡ g.O.ByteSink.failures l.initial.sink)
    × (g.O.ByteSink.most_idle l.sink ≤ max (g.O.ByteSink.most_idle l.initial.sink) 1048576)
    × IsLine l.dialog.begun.items
    × g.T.Answerer.stands l.dialog.answerer
    × (read : List ℕ) × (written : List ℕ)
    × Consumes (g.I.ByteSource.remaining l.initial.source) (g.I.ByteSource.remaining l.source) read
    × Appends (g.O.ByteSink.contents l.initial.sink) (g.O.ByteSink.contents l.sink) written
    × HasAnswered g.T.Answerer.has_answered l.fn.answerer l.dialog read written
