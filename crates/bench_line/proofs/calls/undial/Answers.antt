use Rattle.std.proofs.Common.{ap, sym, ◌∙◌}
use Rattle.bench_line.specs.Line.{undialled}
use Rattle.bench_line.proofs.DialLemmas.{mapped-next}
use Rattle.bench_line.proofs.calls.undial.Goals as goal

pub loop-line-preserved : goal.loop-line-preserved
loop-line-preserved c =
    mapped-next (undialled c.args.peer c.args.generation) c.args.lines.now c.loop-line.lines c.loop-line.line-index c.line-item.result c.undial.new.self c.loop-line-test.true c.loop-line.invariant c.line-item.is (c.undial.ensures ∙ ap (undialled c.args.peer c.args.generation) (sym c.line-item.is))
