use Rattle.std.proofs.Common.{sym, ◌∙◌, List, subst}
use Rattle.bench_line.specs.Line.{LineView}
use Rattle.bench_line.specs.Lines.{AreLinesAfter, lifted_one}
use Rattle.bench_line.specs.Talk.{meaning}
use Rattle.bench_line.proofs.LiftLemmas.{with_line-none, set-line, stands-lift, unlifted}
use Rattle.bench_line.proofs.lines.Lines.lift.Goals as goal

pub returns-in_default-clause-lifted : goal.returns-in_default-clause-lifted
returns-in_default-clause-lifted g c = sym (with_line-none c.args.self.now.lines c.args.line lifted_one c.in_default.ensures.err)

pub returns-then-lift-clause-lifted : goal.returns-then-lift-clause-lifted
returns-then-lift-clause-lifted g c =
    rw (← c.self.view_is) (set-line c.self.inside.lines.items c.args.line c.in-Ok.place c.index_mut-at.result.now c.lift.new.self lifted_one (rw (← c.self.view_is) at c.in-Ok.ensures.ok) c.index_mut-at.ensures.value c.lift.ensures.lifted)

pub returns-then-lift-clause-stands : goal.returns-then-lift-clause-stands
returns-then-lift-clause-stands g c =
    let m = meaning g.T.Hears.heard g.T.Hears.turned g.T.Hears.octets_of c.self.inside.rules in
    let e = set-line c.self.inside.lines.items c.args.line c.in-Ok.place c.index_mut-at.result.now c.lift.new.self lifted_one (rw (← c.self.view_is) at c.in-Ok.ensures.ok) c.index_mut-at.ensures.value c.lift.ensures.lifted in
    rw (← c.self.view_is) (λ pasts s. subst (λ (ls : List LineView). AreLinesAfter m ls pasts) (sym e) (stands-lift m c.self.inside.lines.items c.args.line pasts s))

pub returns-then-lift-clause-undone : goal.returns-then-lift-clause-undone
returns-then-lift-clause-undone g c =
    rw (← c.self.view_is) (unlifted c.self.inside.lines.items c.args.line c.in-Ok.place c.index_mut-at.result.now c.lift.new.self (rw (← c.self.view_is) at c.in-Ok.ensures.ok) c.index_mut-at.ensures.value c.lift.ensures.lifted (sym c.lift.ensures.is ∙ c.if-lift.true))

pub returns-clause-lifted : goal.returns-clause-lifted
returns-clause-lifted g c =
    rw (← c.self.view_is) (set-line c.self.inside.lines.items c.args.line c.in-Ok.place c.index_mut-at.result.now c.lift.new.self lifted_one (rw (← c.self.view_is) at c.in-Ok.ensures.ok) c.index_mut-at.ensures.value c.lift.ensures.lifted)
