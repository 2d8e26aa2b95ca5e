use Rattle.std.proofs.Common.{arith, sym, ◌∙◌, ◌≡◌, get_or, Bool, true, false, eq-eqb}
use Rattle.std.specs.Prelude.{◌==◌}
use Rattle.std.proofs.lemmas.Bool.{ne_eqb}
use Rattle.tab_step.specs.Bind.{IsPlacesOf}
use Rattle.tab_step.specs.Moves.{name_at}
use Rattle.tab_step.proofs.BindLemmas.{AllZip-length, places-at, places-in, row-at}
use Rattle.tab_step.proofs.MoveLemmas.{matches-places}
use Rattle.tab_step.proofs.taking.takes.Goals as goal
use Rattle.tab_step.proofs.taking.takes.Goals.{then-row-state, else-row-state}

not-both : (b : Bool) → b ≡ false → b ≡ true → ⊥
not-both true off on = cc
not-both false off on = cc

pub bounds-places-number : goal.bounds-places-number
bounds-places-number g c =
    let same = AllZip-length (IsPlacesOf c.args.book.now c.args.bound.now.table) c.args.bound.now.table.rows c.args.bound.now.places c.requires.bound in
    rw c.places.ensures (omega (arith, same, c.requires.in_rows))

pub all_yes-requires-clause-registered : goal.all_yes-requires-clause-registered
all_yes-requires-clause-registered g c =
    let at = places-at c.args.book.now c.args.bound.now c.args.number c.index-rows-number.result c.index-places-number.result c.requires.bound c.requires.in_rows (rw c.places.ensures at c.index-places-number.is) in
    rw c.as_slice.ensures.value (places-in c.args.book.now.guards (name_at c.args.bound.now.table.guards) _ _ at.guards)

pub returns-then-places-kind : goal.returns-then-places-kind
returns-then-places-kind g c = λ row.
    let at = places-at c.args.book.now c.args.bound.now c.args.number row c.index-places-number.result c.requires.bound c.requires.in_rows (rw c.places.ensures at c.index-places-number.is) in
    let by = matches-places c.args.book.now c.args.bound.now.table (get_or c.args.bound.now.table.rows c.args.number row) c.index-places-number.result c.args.state c.args.kind c.args.scene.now c.known.ensures.kinds_named at in
    let is = row-at c.args.bound.now.table.rows c.rows.result.now c.args.number row c.index-rows-number.result (rw c.table.ensures at c.rows.ensures.rows) c.requires.in_rows c.index-rows-number.is in
    elim c.if-row-state.branch [
      | then-row-state w ↦
          let state : ((get_or c.args.bound.now.table.rows c.args.number row).state == c.args.state) ≡ true = rw is (eq-eqb _ _ w.if-row-state.true) in
          let kind : (c.index-places-number.result.kind == c.args.kind) ≡ true = sym w.value-is ∙ c.if-places-kind.true in
          rw (by, state, kind, ← c.as_slice.ensures.value) c.all_yes.ensures
      | else-row-state w ↦ absurd (not-both c.if-row-state.value (w.value-is ∙ ne_eqb _ _ w.if-row-state.false) c.if-places-kind.true)
    ]

pub returns-else-places-kind : goal.returns-else-places-kind
returns-else-places-kind g c = λ row.
    let at = places-at c.args.book.now c.args.bound.now c.args.number row c.index-places-number.result c.requires.bound c.requires.in_rows (rw c.places.ensures at c.index-places-number.is) in
    let by = matches-places c.args.book.now c.args.bound.now.table (get_or c.args.bound.now.table.rows c.args.number row) c.index-places-number.result c.args.state c.args.kind c.args.scene.now c.known.ensures.kinds_named at in
    let is = row-at c.args.bound.now.table.rows c.rows.result.now c.args.number row c.index-rows-number.result (rw c.table.ensures at c.rows.ensures.rows) c.requires.in_rows c.index-rows-number.is in
    elim c.if-row-state.branch [
      | then-row-state w ↦
          let state : ((get_or c.args.bound.now.table.rows c.args.number row).state == c.args.state) ≡ true = rw is (eq-eqb _ _ w.if-row-state.true) in
          let kind : (c.index-places-number.result.kind == c.args.kind) ≡ false = sym w.value-is ∙ c.if-places-kind.false in
          rw (by, state, kind) c.if-places-kind.false
      | else-row-state w ↦
          let state : ((get_or c.args.bound.now.table.rows c.args.number row).state == c.args.state) ≡ false = rw is (ne_eqb _ _ w.if-row-state.false) in
          rw (by, state) c.if-places-kind.false
    ]
