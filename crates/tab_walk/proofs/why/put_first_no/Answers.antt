use Rattle.std.proofs.Common.{arith, ◌≡◌, ◌∙◌, ap, sym, get_or, append-nil, List, ℕ, Some, None}
use Rattle.std.specs.List.{filter_map, slice_get}
use Rattle.tab_step.specs.Bind.{IsPlacesOf}
use Rattle.tab_step.specs.Moves.{name_at}
use Rattle.tab_step.proofs.BindLemmas.{AllZip-length, places-at, places-in}
use Rattle.tab_step.proofs.MoveLemmas.{no_row}
use Rattle.tab_walk.specs.Places.{no_at}
use Rattle.tab_walk.specs.Whys.{first_no}
use Rattle.tab_walk.proofs.WhyLemmas.{first_no-places}
use Rattle.tab_walk.proofs.why.put_first_no.Goals as goal

pub bounds-places-number : goal.bounds-places-number
bounds-places-number c =
    let same = AllZip-length (IsPlacesOf c.args.book.now c.args.bound.now.table) c.args.bound.now.table.rows c.args.bound.now.places c.requires.bound in
    rw c.places.ensures (omega (arith, same, c.requires.in_rows))

pub offset_bounds-places-number : goal.offset_bounds-places-number
offset_bounds-places-number c =
    let few = rw c.table.ensures at c.rows-rows.ensures.table.few_rows in
    omega (arith, few, c.requires.in_rows)

pub first_no-requires : goal.first_no-requires
first_no-requires c =
    let at = places-at c.args.book.now c.args.bound.now c.args.number no_row c.index-places-number.result c.requires.bound c.requires.in_rows (rw c.places.ensures at c.index-places-number.is) in
    rw c.as_slice.ensures.value (places-in c.args.book.now.guards (name_at c.args.bound.now.table.guards) _ _ at.guards)

pub returns-in-Some : goal.returns-in-Some
returns-in-Some c = λ row.
    let at = places-at c.args.book.now c.args.bound.now c.args.number row c.index-places-number.result c.requires.bound c.requires.in_rows (rw c.places.ensures at c.index-places-number.is) in
    let first : first_no c.args.bound.now.table c.args.book.now c.args.scene.now (get_or c.args.bound.now.table.rows c.args.number row) ≡ Some (c.in-Some.name.now, c.in-Some.test.now) =
    first_no-places c.args.book.now c.args.bound.now.table (get_or c.args.bound.now.table.rows c.args.number row) c.index-places-number.result c.args.scene.now at
    ∙ ap (λ (l : List ℕ). slice_get (filter_map (no_at c.args.book.now c.args.scene.now) l) 0) (sym c.as_slice.ensures.value) ∙ sym c.in-Some.ensures in
    rw first c.put_no.ensures

pub returns-in-None : goal.returns-in-None
returns-in-None c = λ row.
    let at = places-at c.args.book.now c.args.bound.now c.args.number row c.index-places-number.result c.requires.bound c.requires.in_rows (rw c.places.ensures at c.index-places-number.is) in
    let first : first_no c.args.bound.now.table c.args.book.now c.args.scene.now (get_or c.args.bound.now.table.rows c.args.number row) ≡ None =
    first_no-places c.args.book.now c.args.bound.now.table (get_or c.args.bound.now.table.rows c.args.number row) c.index-places-number.result c.args.scene.now at
    ∙ ap (λ (l : List ℕ). slice_get (filter_map (no_at c.args.book.now c.args.scene.now) l) 0) (sym c.as_slice.ensures.value) ∙ sym c.in-None.ensures in
    rw first (sym (append-nil c.args.out.now.items))
