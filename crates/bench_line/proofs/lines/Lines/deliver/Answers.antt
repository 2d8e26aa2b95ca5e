use Rattle.bench_item.specs.Lines.{Delivered}
use Rattle.bench_line.specs.Talk.{meaning}
use Rattle.bench_line.proofs.CallLemmas.{delivered-stands, delivered-undone, lifted_kept, undone}
use Rattle.bench_line.proofs.LiftLemmas.{stands-none}
use Rattle.bench_line.proofs.lines.Lines.deliver.Goals as goal

pub returns-in_default-clause-stands : goal.returns-in_default-clause-stands
returns-in_default-clause-stands g c =
    let m = meaning g.T.Hears.heard g.T.Hears.turned g.T.Hears.octets_of c.args.self.now.rules in
    stands-none m c.args.self.now.lines c.args.item.now.line (Delivered c.args.item.now) c.in_default.ensures.err

pub returns-clause-stands : goal.returns-clause-stands
returns-clause-stands g c =
    let m = meaning g.T.Hears.heard g.T.Hears.turned g.T.Hears.octets_of c.self.inside.rules in
    rw (← c.self.view_is) (delivered-stands m c.self.inside.lines.items c.args.item.now.line c.in-Ok.place c.args.item.now c.index_mut-at.result.now c.deliver.new.self
    (rw (← c.self.view_is) at c.in-Ok.ensures.ok) c.index_mut-at.ensures.value c.in_ok-deliver.ensures.ok)

pub returns-clause-undone : goal.returns-clause-undone
returns-clause-undone g c =
    let m = meaning g.T.Hears.heard g.T.Hears.turned g.T.Hears.octets_of c.self.inside.rules in
    let r = delivered-undone m c.args.item.now c.index_mut-at.result.now c.deliver.new.self c.before-before.result c.in_ok-deliver.ensures.ok c.before-before.ensures in
    rw (← c.self.view_is) (undone c.self.inside.lines.items c.args.item.now.line c.in-Ok.place c.index_mut-at.result.now c.deliver.new.self c.before-before.result
    (rw (← c.self.view_is) at c.in-Ok.ensures.ok) c.index_mut-at.ensures.value r)

pub returns-clause-lifted : goal.returns-clause-lifted
returns-clause-lifted g c =
    let m = meaning g.T.Hears.heard g.T.Hears.turned g.T.Hears.octets_of c.self.inside.rules in
    let r = delivered-undone m c.args.item.now c.index_mut-at.result.now c.deliver.new.self c.before-before.result c.in_ok-deliver.ensures.ok c.before-before.ensures in
    rw (← c.self.view_is) (lifted_kept c.self.inside.lines.items c.args.item.now.line c.in-Ok.place c.index_mut-at.result.now c.deliver.new.self c.before-before.result
    (rw (← c.self.view_is) at c.in-Ok.ensures.ok) c.index_mut-at.ensures.value r)
