use Rattle.std.proofs.Common.{arith, refl, ◌≡◌, get_or, true, eq-eqb}
use Rattle.std.specs.Prelude.{◌==◌}
use Rattle.tab_step.specs.Bind.{IsPlacesOf}
use Rattle.tab_step.proofs.BindLemmas.{AllZip-length, places-at, row-at}
use Rattle.tab_walk.proofs.WhyLemmas.{is_of-places}
use Rattle.tab_walk.proofs.why.is_of.Goals as goal

pub bounds-places-number : goal.bounds-places-number
bounds-places-number c =
    let same = AllZip-length (IsPlacesOf c.args.book.now c.args.bound.now.table) c.args.bound.now.table.rows c.args.bound.now.places c.requires.bound in
    rw c.places.ensures (omega (arith, same, c.requires.in_rows))

-- the state is the machine's, and so the kind says whether
pub returns-then-row-machine : goal.returns-then-row-machine
returns-then-row-machine c = λ row.
    let at = places-at c.args.book.now c.args.bound.now c.args.number row c.index-places-number.result c.requires.bound c.requires.in_rows (rw c.places.ensures at c.index-places-number.is) in
    let by = is_of-places c.args.book.now c.args.bound.now.table (get_or c.args.bound.now.table.rows c.args.number row) c.index-places-number.result c.args.machine.now c.args.event.now c.known.ensures.kinds_named at in
    let is = row-at c.args.bound.now.table.rows c.rows.result.now c.args.number row c.index-rows-number.result (rw c.table.ensures at c.rows.ensures.rows) c.requires.in_rows c.index-rows-number.is in
    let state : ((get_or c.args.bound.now.table.rows c.args.number row).state == c.args.machine.now.state) ≡ true = rw is (eq-eqb _ _ c.if-row-machine.true) in
    rw (by, state) refl
