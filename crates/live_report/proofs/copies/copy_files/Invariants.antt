use Rattle.std.proofs.Common.{◌≡◌, ◌≤◌, ◌+◌, ◌*◌, take}
use Rattle.live_report.specs.Copies.{AllCopied}
use Rattle.live_report.proofs.copies.copy_files.Given as goal

-- the files of the nodes so far are copied, with four inputs each at most
abbrev pub invariant-nodes : goal.invariant-nodes
invariant-nodes g l = record {
  sound : g.I.ByteSource.failures l.source ≡ g.I.ByteSource.failures l.initial.source;
  made : g.I.ByteSource.reads l.initial.source ≤ g.I.ByteSource.reads l.source;
  reads : g.I.ByteSource.reads l.source ≤ g.I.ByteSource.reads l.initial.source + 4194304 * l.place;
  copied : AllCopied g.I.ByteSource.remaining g.I.ByteSource.reads g.I.ByteSource.failures l.initial.source (g.F.FileSink.files l.initial.files)
      (take l.place l.nodes) l.source (g.F.FileSink.files l.files);
  kept : g.F.FileSink.failed l.files ≡ g.F.FileSink.failed l.initial.files;
}
