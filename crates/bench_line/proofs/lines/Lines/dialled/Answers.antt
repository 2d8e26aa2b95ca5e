use Rattle.bench_line.specs.Talk.{meaning}
use Rattle.bench_line.proofs.CallLemmas.{dialled-stands, dialled-undone, lifted_kept, undone}
use Rattle.bench_line.proofs.lines.Lines.dialled.Goals as goal

pub returns-clause-stands : goal.returns-clause-stands
returns-clause-stands g c =
    let m = meaning g.T.Hears.heard g.T.Hears.turned g.T.Hears.octets_of c.self.inside.rules in
    rw (← c.self.view_is) (dialled-stands m c.self.inside.lines.items c.args.line c.in_ok-place.place c.index_mut-at.result.now c.acknowledge.new.self
    (rw (← c.self.view_is) at c.in_ok-place.ensures.ok) (rw (← c.self.view_is) at c.in_ok-place.ensures.free) c.index_mut-at.ensures.value c.in_ok-acknowledge.ensures.ok)

pub returns-clause-undone : goal.returns-clause-undone
returns-clause-undone g c =
    let m = meaning g.T.Hears.heard g.T.Hears.turned g.T.Hears.octets_of c.self.inside.rules in
    let r = dialled-undone m c.args.line c.index_mut-at.result.now c.acknowledge.new.self c.before-before.result c.in_ok-acknowledge.ensures.ok c.before-before.ensures in
    rw (← c.self.view_is) (undone c.self.inside.lines.items c.args.line c.in_ok-place.place c.index_mut-at.result.now c.acknowledge.new.self c.before-before.result
    (rw (← c.self.view_is) at c.in_ok-place.ensures.ok) c.index_mut-at.ensures.value r)

pub returns-clause-lifted : goal.returns-clause-lifted
returns-clause-lifted g c =
    let m = meaning g.T.Hears.heard g.T.Hears.turned g.T.Hears.octets_of c.self.inside.rules in
    let r = dialled-undone m c.args.line c.index_mut-at.result.now c.acknowledge.new.self c.before-before.result c.in_ok-acknowledge.ensures.ok c.before-before.ensures in
    rw (← c.self.view_is) (lifted_kept c.self.inside.lines.items c.args.line c.in_ok-place.place c.index_mut-at.result.now c.acknowledge.new.self c.before-before.result
    (rw (← c.self.view_is) at c.in_ok-place.ensures.ok) c.index_mut-at.ensures.value r)
