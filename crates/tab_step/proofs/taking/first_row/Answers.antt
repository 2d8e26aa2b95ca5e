use Rattle.std.proofs.Common.{arith, sym, ◌∙◌, ◌+◌, ◌≡◌, ◌<◌, length}
use Rattle.tab_law.specs.Books.{named_answer}
use Rattle.tab_step.specs.Moves.{matches, is_kind_of}
use Rattle.tab_step.proofs.MoveLemmas.{first-at, first-none, no_row}
use Rattle.tab_step.proofs.taking.first_row.Goals as goal

pub returns-then-takes-clause-some : goal.returns-then-takes-clause-some
returns-then-takes-clause-some g c = λ row.
    let p = matches c.args.bound.now.table c.args.state (is_kind_of c.args.book.now c.args.kind) (named_answer c.args.book.now c.args.scene.now) in
    let within : c.loop-number.number < length c.args.bound.now.table.rows = rw (← c.table.ensures, ← c.rows-number-end.ensures.rows) c.loop-number-test.true in
    let z : 0 + c.loop-number.number ≡ c.loop-number.number = omega arith in
    rw z at (first-at p c.args.bound.now.table.rows c.loop-number.number 0 row within (λ k below. c.loop-number.invariant k row below) (sym (c.takes.ensures row) ∙ c.if-takes.true))

pub returns-clause-none : goal.returns-clause-none
returns-clause-none g c =
    let past = rw (c.rows-number-end.ensures.rows, c.table.ensures) at c.loop-number-test.false in
    first-none (matches c.args.bound.now.table c.args.state (is_kind_of c.args.book.now c.args.kind) (named_answer c.args.book.now c.args.scene.now)) c.args.bound.now.table.rows 0 no_row (λ k below. c.loop-number.invariant k no_row (omega (arith, past)))
