use Rattle.std.proofs.Common.{arith, rules, ◌≡◌, true, false}
use Rattle.tab_step.specs.Bind.{IsPlacesOf}
use Rattle.tab_step.specs.Moves.{name_at}
use Rattle.tab_step.proofs.BindLemmas.{AllZip-length, places-at, places-in, row-at}
use Rattle.tab_step.proofs.MoveLemmas.{Runs-named, Runs-placed}
use Rattle.tab_step.proofs.judging.moves_along.Goals as goal

pub bounds-places-number : goal.bounds-places-number
bounds-places-number c =
    let same = AllZip-length (IsPlacesOf c.args.book.now c.args.bound.now.table) c.args.bound.now.table.rows c.args.bound.now.places c.requires.bound in
    rw c.places.ensures (omega (arith, same, c.requires.in_rows))

pub may_run-requires : goal.may_run-requires
may_run-requires c =
    let at = places-at c.args.book.now c.args.bound.now c.args.number c.index-rows-number.result c.index-places-number.result c.requires.bound c.requires.in_rows (rw c.places.ensures at c.index-places-number.is) in
    let actions = rw (← c.index-places-number.is) at c.as_slice-actions.ensures.value in
    rw actions (places-in c.args.book.now.acts (name_at c.args.bound.now.table.actions) _ _ at.actions)

pub returns-then-not-may_run : goal.returns-then-not-may_run
returns-then-not-may_run c = λ row.
    let at = places-at c.args.book.now c.args.bound.now c.args.number row c.index-places-number.result c.requires.bound c.requires.in_rows (rw c.places.ensures at c.index-places-number.is) in
    let actions = rw (← c.index-places-number.is) at c.as_slice-actions.ensures.value in
    let ran = rw (actions, c.as_slice-chain.ensures.value, c.as_slice-deeds.ensures.value) at c.may_run.ensures in
    let no : c.may_run.result ≡ false = search rules in
    (λ t. cc, λ m. let yes = ran.1 (Runs-placed c.args.book.now c.args.bound.now.table.actions _ _ _ _ _ _ at.actions m.runs) in cc)

pub returns : goal.returns
returns c = λ row.
    let at = places-at c.args.book.now c.args.bound.now c.args.number row c.index-places-number.result c.requires.bound c.requires.in_rows (rw c.places.ensures at c.index-places-number.is) in
    let actions = rw (← c.index-places-number.is) at c.as_slice-actions.ensures.value in
    let ran = rw (actions, c.as_slice-chain.ensures.value, c.as_slice-deeds.ensures.value) at c.may_run.ensures in
    let is = row-at c.args.bound.now.table.rows c.rows.result.now c.args.number row c.index-rows-number.result (rw c.table.ensures at c.rows.ensures.rows) c.requires.in_rows c.index-rows-number.is in
    let end = rw c.as_slice-chain.ensures.value at c.is_end.ensures in
    let yes : c.may_run.result ≡ true = search rules in (
      λ t. record {
        state = rw is c.if-stepped-row.false;
        runs = Runs-named c.args.book.now c.args.bound.now.table.actions _ _ _ _ _ _ at.actions (ran.0 yes);
        regs = end.0 t;
      },
      λ m. end.1 m.regs,
    )
