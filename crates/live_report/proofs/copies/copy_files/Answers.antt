use Rattle.std.proofs.Common.{◌∙◌, arith, refl}
use Rattle.live_report.specs.Copies.{nothing}
use Rattle.live_report.proofs.CopyLemmas.{copied_next}
use Rattle.live_report.proofs.copies.copy_files.Goals as goal

-- none is
pub nodes-init : goal.nodes-init
nodes-init g c = record {
  sound = refl;
  made = omega arith;
  reads = omega arith;
  copied = nothing;
  kept = refl;
}

-- those of one node more are
pub nodes-preserved : goal.nodes-preserved
nodes-preserved g c = record {
  sound = c.in_ok-copy_named.ensures.sound ∙ c.nodes.invariant.sound;
  made = omega (arith, c.copy_named.ensures.made, c.nodes.invariant.made);
  reads = omega (arith, c.copy_named.ensures.reads, c.nodes.invariant.reads);
  copied =
      copied_next g.I.ByteSource.remaining g.I.ByteSource.reads g.I.ByteSource.failures c.args.source.now c.nodes.source c.copy_named.new.source (g.F.FileSink.files c.args.files.now)
      (g.F.FileSink.files c.nodes.files) (g.F.FileSink.files c.copy_named.new.files) c.args.nodes.now c.nodes.place _ _ c.nodes-test.true c.index-nodes-place.is
      c.nodes.invariant.copied c.in_ok-copy_named.ensures.copied;
  kept = c.in_ok-copy_named.ensures.kept ∙ c.nodes.invariant.kept;
}
