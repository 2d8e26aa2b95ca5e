use Rattle.std.proofs.Common.{arith, refl}
use Rattle.tab_step.specs.Bind.{IsPlacesOf}
use Rattle.tab_step.specs.Moves.{name_at}
use Rattle.tab_step.proofs.BindLemmas.{AllZip-length, places-at, places-in, row-at}
use Rattle.tab_step.proofs.MoveLemmas.{Runs-named}
use Rattle.tab_step.proofs.stepping.go_along.Goals as goal

pub bounds-places-number : goal.bounds-places-number
bounds-places-number g c =
    let same = AllZip-length (IsPlacesOf c.args.registry.now.book c.args.bound.now.table) c.args.bound.now.table.rows c.args.bound.now.places c.requires.bound in
    rw c.places.ensures (omega (arith, same, c.requires.in_rows))

pub act_all-requires-clause-registered : goal.act_all-requires-clause-registered
act_all-requires-clause-registered g c =
    let at = places-at c.args.registry.now.book c.args.bound.now c.args.number c.index-rows-number.result c.index-places-number.result c.requires.bound c.requires.in_rows (rw c.places.ensures at c.index-places-number.is) in
    let actions = rw (← c.index-places-number.is) at c.as_slice-actions.ensures.value in
    rw actions (places-in c.args.registry.now.book.acts (name_at c.args.bound.now.table.actions) _ _ at.actions)

pub returns-clause-along : goal.returns-clause-along
returns-clause-along g c = λ row.
    let at = places-at c.args.registry.now.book c.args.bound.now c.args.number row c.index-places-number.result c.requires.bound c.requires.in_rows (rw c.places.ensures at c.index-places-number.is) in
    let actions = rw (← c.index-places-number.is) at c.as_slice-actions.ensures.value in
    let runs = rw (c.requires.scene, actions) at c.act_all.ensures.runs in
    let is = row-at c.args.bound.now.table.rows c.rows.result.now c.args.number row c.index-rows-number.result (rw c.table.ensures at c.rows.ensures.rows) c.requires.in_rows c.index-rows-number.is in
    record {
      state = rw is refl;
      runs = Runs-named c.args.registry.now.book c.args.bound.now.table.actions _ _ _ _ _ _ at.actions runs;
      regs = rw c.requires.scene at c.act_all.ensures.end;
    }
