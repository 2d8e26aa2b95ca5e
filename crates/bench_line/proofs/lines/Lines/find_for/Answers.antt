use Rattle.std.proofs.Common.{sym, ◌∙◌}
use Rattle.bench_line.proofs.RefusalLemmas.{refusal-none, refusal-place}
use Rattle.bench_line.proofs.lines.Lines.find_for.Goals as goal

pub returns-in_default-clause-err : goal.returns-in_default-clause-err
returns-in_default-clause-err g c = refusal-none c.args.call c.args.self.now.lines c.args.line c.in_default.ensures.err

pub returns-in-Some-clause-err : goal.returns-in-Some-clause-err
returns-in-Some-clause-err g c =
    refusal-place c.args.call c.args.self.now.lines c.args.line c.in-Ok.place c.index-at.result.now c.in-Ok.ensures.ok (rw (← c.self.view_is) c.index-at.ensures) ∙ sym c.refusal.ensures ∙ c.in-Some.is

pub returns-in-None-clause-free : goal.returns-in-None-clause-free
returns-in-None-clause-free g c =
    refusal-place c.args.call c.args.self.now.lines c.args.line c.in-Ok.place c.index-at.result.now c.in-Ok.ensures.ok (rw (← c.self.view_is) c.index-at.ensures) ∙ sym c.refusal.ensures ∙ c.in-None.is
