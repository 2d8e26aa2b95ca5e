use Rattle.std.proofs.Common.{◌++◌, ◌≡◌, ◌<◌, ◌∙◌, ℕ, List, ap, sym, append_assoc, arith, get_or, length, take}
use Rattle.std.specs.List.{enumerate_from, flat_map}
use Rattle.tab_text.specs.Contents.{Contents}
use Rattle.tab_text.specs.declared.row.Row.{Row}
use Rattle.tab_step.proofs.MoveLemmas.{no_row}
use Rattle.tab_walk.specs.Places.{count_before}
use Rattle.tab_walk.specs.Whys.{row_why}
use Rattle.tab_walk.proofs.WhyLemmas.{count_before-within, rows-more, rows_before-count}
use Rattle.tab_walk.proofs.why.put_rows.Goals as goal

pub loop-number-preserved : goal.loop-number-preserved
loop-number-preserved c =
    let rows = c.args.bound.now.table.rows in
    let f : (ℕ × Row) → List ℕ = row_why c.args.bound.now.table c.args.book.now c.args.machine.now c.args.event.now in
    let number = c.loop-number.number in
    let len : length c.rows.result.now ≡ length rows = ap length (c.rows.ensures.rows ∙ ap (λ (t : Contents). t.rows) c.table.ensures) in
    let within : number < length rows = count_before-within c.args.taken (length rows) number c.count_before-end.result (rw len at c.count_before-end.ensures) c.loop-number-test.true in
    c.in_ok-put_row.ensures no_row ∙ ap (λ (l : List ℕ). l ++ f (number, get_or rows number no_row)) c.loop-number.invariant
    ∙ append_assoc c.args.out.now.items (flat_map f (take number (enumerate_from 0 rows))) (f (number, get_or rows number no_row))
    ∙ ap (λ (l : List ℕ). c.args.out.now.items ++ l) (sym (rows-more f rows number no_row within))

pub returns : goal.returns
returns c =
    let rows = c.args.bound.now.table.rows in
    let f : (ℕ × Row) → List ℕ = row_why c.args.bound.now.table c.args.book.now c.args.machine.now c.args.event.now in
    let len : length c.rows.result.now ≡ length rows = ap length (c.rows.ensures.rows ∙ ap (λ (t : Contents). t.rows) c.table.ensures) in
    let end : c.count_before-end.result ≡ count_before c.args.taken (length rows) = rw len at c.count_before-end.ensures in
    let e : c.loop-number.number ≡ count_before c.args.taken (length rows) = omega arith in
    c.loop-number.invariant ∙ ap (λ (n : ℕ). c.args.out.now.items ++ flat_map f (take n (enumerate_from 0 rows))) e
    ∙ ap (λ (l : List (ℕ × Row)). c.args.out.now.items ++ flat_map f l) (rows_before-count c.args.bound.now.table c.args.taken)
