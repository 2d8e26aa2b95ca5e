use Rattle.std.proofs.Common.{sym}
use Rattle.bench_line.specs.Before.{restored}
use Rattle.bench_line.proofs.LiftLemmas.{with_line-none, set-line}
use Rattle.bench_line.proofs.lines.Lines.restore.Goals as goal

pub returns-in_default-clause-lines : goal.returns-in_default-clause-lines
returns-in_default-clause-lines g c = sym (with_line-none c.args.self.now.lines c.args.line (restored c.args.before) c.in_default.ensures.err)

pub returns-clause-lines : goal.returns-clause-lines
returns-clause-lines g c =
    rw (← c.self.view_is) (set-line c.self.inside.lines.items c.args.line c.in-Ok.place c.index_mut-at.result.now c.restore.new.self (restored c.args.before) (rw (← c.self.view_is) at c.in-Ok.ensures.ok) c.index_mut-at.ensures.value c.restore.ensures)
