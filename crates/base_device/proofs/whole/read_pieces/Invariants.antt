use Rattle.std.proofs.Common.{◌≡◌, ◌+◌}
use Rattle.std.specs.Io.KnownBytes.{Consumes}
use Rattle.base_device.proofs.whole.read_pieces.Given as goal

-- no call failed, each turn made one read, and what was read is the text so far
abbrev pub invariant-reads : goal.invariant-reads
invariant-reads g l = record {
  made : g.I.ByteSource.reads l.source ≡ g.I.ByteSource.reads l.initial.source + l.counter;
  sound : g.I.ByteSource.failures l.source ≡ g.I.ByteSource.failures l.initial.source;
  read : Consumes (g.I.ByteSource.remaining l.initial.source) (g.I.ByteSource.remaining l.source) l.text.items;
}
