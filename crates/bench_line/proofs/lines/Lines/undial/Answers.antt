use Rattle.std.proofs.Common.{List, map, sym, subst}
use Rattle.bench_item.specs.Lines.{Undialled}
use Rattle.bench_line.specs.Line.{LineView, undialled}
use Rattle.bench_line.specs.Lines.{AreLinesAfter, one_more}
use Rattle.bench_line.specs.Talk.{meaning}
use Rattle.bench_line.proofs.DialLemmas.{stands-undialled, counts-undialled, redialled-undialled, written}
use Rattle.bench_line.proofs.lines.Lines.undial.Goals as goal

pub returns-clause-stands : goal.returns-clause-stands
returns-clause-stands g c =
    let m = meaning g.T.Hears.heard g.T.Hears.turned g.T.Hears.octets_of c.self.inside.rules in
    let items = c.self.inside.lines.items in
    let w = written (undialled c.args.peer c.args.generation) items c.deref_mut.result.now c.undial.new.lines c.self.inside.lines.len c.deref_mut.ensures.value c.undial.ensures c.self.inside.lines.ok.0 in
    rw (← c.self.view_is) (λ pasts s. subst (λ (ls : List LineView). AreLinesAfter m ls (map (one_more (Undialled c.args.peer c.args.generation)) pasts)) (sym w) (stands-undialled m c.args.peer c.args.generation items pasts s))

pub returns-clause-undone : goal.returns-clause-undone
returns-clause-undone g c =
    let items = c.self.inside.lines.items in
    let w = written (undialled c.args.peer c.args.generation) items c.deref_mut.result.now c.undial.new.lines c.self.inside.lines.len c.deref_mut.ensures.value c.undial.ensures c.self.inside.lines.ok.0 in
    let states = c.in_ok-states.ensures.ok in
    rw (← c.self.view_is, w, states, c.deref.ensures.value) (redialled-undialled c.args.peer c.args.generation items)

pub returns-clause-lifted : goal.returns-clause-lifted
returns-clause-lifted g c =
    let items = c.self.inside.lines.items in
    let w = written (undialled c.args.peer c.args.generation) items c.deref_mut.result.now c.undial.new.lines c.self.inside.lines.len c.deref_mut.ensures.value c.undial.ensures c.self.inside.lines.ok.0 in
    rw (← c.self.view_is, w) (counts-undialled c.args.peer c.args.generation items)
