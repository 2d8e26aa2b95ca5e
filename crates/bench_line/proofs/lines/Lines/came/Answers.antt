use Rattle.bench_line.specs.Talk.{meaning}
use Rattle.bench_line.proofs.CallLemmas.{came-stands, came-ended, lifted_kept, undone, posted}
use Rattle.bench_line.proofs.lines.Lines.came.Goals as goal

pub returns-clause-stands : goal.returns-clause-stands
returns-clause-stands g c =
    let m = meaning g.T.Hears.heard g.T.Hears.turned g.T.Hears.octets_of c.self.inside.rules in
    rw (← c.self.view_is) (came-stands m c.self.inside.lines.items c.args.line c.in_ok-place.place c.args.piece.now c.index_mut-at.result.now c.receive.new.self c.in_ok-ended.ended
    (rw (← c.self.view_is) at c.in_ok-place.ensures.ok) (rw (← c.self.view_is) at c.in_ok-place.ensures.free) c.index_mut-at.ensures.value c.in_ok-ended.ensures.stands)

pub returns-clause-ended : goal.returns-clause-ended
returns-clause-ended g c =
    let m = meaning g.T.Hears.heard g.T.Hears.turned g.T.Hears.octets_of c.self.inside.rules in
    rw (← c.self.view_is) (came-ended m c.self.inside.lines.items c.args.line c.in_ok-place.place c.args.piece.now c.index_mut-at.result.now c.receive.new.self c.in_ok-ended.ended
    (rw (← c.self.view_is) at c.in_ok-place.ensures.ok) (rw (← c.self.view_is) at c.in_ok-place.ensures.free) c.index_mut-at.ensures.value c.in_ok-ended.ensures.stands)

pub returns-clause-posted : goal.returns-clause-posted
returns-clause-posted g c =
    rw (c.posted_since-posted.ensures, ← c.self.view_is) (posted c.self.inside.lines.items c.args.line c.in_ok-place.place c.index_mut-at.result.now c.receive.new.self c.in_ok-ended.before
    (rw (← c.self.view_is) at c.in_ok-place.ensures.ok) c.index_mut-at.ensures.value c.in_ok-ended.ensures.undone c.in_ok-ended.ensures.outbox)

pub returns-clause-undone : goal.returns-clause-undone
returns-clause-undone g c =
    rw (← c.self.view_is) (undone c.self.inside.lines.items c.args.line c.in_ok-place.place c.index_mut-at.result.now c.receive.new.self c.in_ok-ended.before
    (rw (← c.self.view_is) at c.in_ok-place.ensures.ok) c.index_mut-at.ensures.value c.in_ok-ended.ensures.undone)

pub returns-clause-lifted : goal.returns-clause-lifted
returns-clause-lifted g c =
    rw (← c.self.view_is) (lifted_kept c.self.inside.lines.items c.args.line c.in_ok-place.place c.index_mut-at.result.now c.receive.new.self c.in_ok-ended.before
    (rw (← c.self.view_is) at c.in_ok-place.ensures.ok) c.index_mut-at.ensures.value c.in_ok-ended.ensures.undone)
