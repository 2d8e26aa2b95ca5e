use Rattle.live_report.proofs.copies.copy_named.Goals as goal

-- the tables in their order, and then the dictionary
pub returns-clause-copied : goal.returns-clause-copied
returns-clause-copied g c = record {
  after_peer = c.copy.new.source;
  with_peer = g.F.FileSink.files c.copy.new.files;
  after_client = c.copy-2.new.source;
  with_client = g.F.FileSink.files c.copy-2.new.files;
  after_server = c.copy-3.new.source;
  with_server = g.F.FileSink.files c.copy-3.new.files;
  peer = rw (c.as_ref.ensures.value, c.as_slice-host.ensures) at c.in_ok-copy.ensures.copied;
  client = rw (c.as_ref-2.ensures.value, c.as_slice-host.ensures) at c.in_ok-copy-2.ensures.copied;
  server = rw (c.as_ref-3.ensures.value, c.as_slice-host.ensures) at c.in_ok-copy-3.ensures.copied;
  dictionary = rw (c.as_ref-4.ensures.value, c.as_slice-host.ensures) at c.in_ok-copy-4.ensures.copied;
}
