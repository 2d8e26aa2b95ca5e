use Rattle.std.proofs.Common.{◌<◌, ◌≡◌, ◌++◌, ◌∙◌, ℕ, List, ap, append-nil, append_assoc, arith, length, sym}
use Rattle.tab_text.specs.declared.row.Row.{Row}
use Rattle.bench_show.specs.Why.{count_to, told_row}
use Rattle.bench_show.proofs.PlaceLemmas.{entry_at}
use Rattle.bench_show.proofs.WhyLemmas.{rows_all, rows_more, rows_none, told_rows, within_rows}
use Rattle.bench_show.proofs.why.put_guards.Goals as goal

-- no row was put
pub each-init : goal.each-init
each-init c =
    sym (ap (λ (text : List ℕ). c.args.out.now.items ++ text) (rows_none c.args.table.now c.args.laws.now c.args.machine.now c.args.event.now) ∙ append-nil c.args.out.now.items)

pub put_row-requires : goal.put_row-requires
put_row-requires c =
    within_rows c.args.taken (length c.args.table.now.rows) c.each.number c.count_to-end.result
    (c.count_to-end.ensures ∙ ap (λ (rows : List Row). count_to c.args.taken (length rows)) c.rows.ensures.rows) c.each-test.true

-- one more was
pub each-preserved : goal.each-preserved
each-preserved c =
    let within : c.each.number < length c.args.table.now.rows =
    within_rows c.args.taken (length c.args.table.now.rows) c.each.number c.count_to-end.result
    (c.count_to-end.ensures ∙ ap (λ (rows : List Row). count_to c.args.taken (length rows)) c.rows.ensures.rows) c.each-test.true in
    let row = entry_at c.args.table.now.rows c.each.number within in
    let one = told_row c.args.table.now c.args.laws.now c.args.machine.now c.args.event.now (c.each.number, row.0) in
    let before = told_rows c.args.table.now c.args.laws.now c.args.machine.now c.args.event.now c.each.number in
    c.in_ok-put_row.ensures row.0 row.1 ∙ ap (λ (front : List ℕ). front ++ one) c.each.invariant
    ∙ (append_assoc c.args.out.now.items before one
    ∙ ap (λ (text : List ℕ). c.args.out.now.items ++ text) (sym (rows_more c.args.table.now c.args.laws.now c.args.machine.now c.args.event.now c.each.number row.0 row.1)))

-- all were
pub returns : goal.returns
returns c =
    let end : c.each.number ≡ c.count_to-end.result = omega arith in
    c.each.invariant
    ∙ ap (λ (text : List ℕ). c.args.out.now.items ++ text)
    (rows_all c.args.table.now c.args.laws.now c.args.machine.now c.args.event.now c.args.taken c.each.number
    (end ∙ c.count_to-end.ensures ∙ ap (λ (rows : List Row). count_to c.args.taken (length rows)) c.rows.ensures.rows))
