use Rattle.std.proofs.Common.{arith}
use Rattle.std.proofs.lemmas.Result.{err_from_is_err_and}
use Rattle.tab_text.specs.Reading.{cells_at}
use Rattle.tab_text.proofs.ReaderLemmas.{row-own, row-over, row-under}
use Rattle.tab_text.proofs.reader.Reader.row_at.Goals as goal

pub returns-in_err-row-clause-row : goal.returns-in_err-row-clause-row
returns-in_err-row-clause-row c = λ header rows stands.
    let p = err_from_is_err_and c.from_residual.result c.from_residual.ensures.1 in
    rw (p.1, p.2) (row-own rows (cells_at c.args.cells) c.args.self.now.count _ stands.count c.in_err-row.ensures)

pub returns-then-self-ge-MAX_ROWS-clause-row : goal.returns-then-self-ge-MAX_ROWS-clause-row
returns-then-self-ge-MAX_ROWS-clause-row c = λ header rows stands.
    row-over rows (cells_at c.args.cells) c.args.self.now.count stands.count c.in_ok-row.ensures.sound c.if-self-ge-MAX_ROWS.true

pub returns-clause-row : goal.returns-clause-row
returns-clause-row c = λ header rows stands.
    let own = c.in_ok-row.ensures in
    let under = c.if-self-ge-MAX_ROWS.false in
    let count = stands.count in
    record {
      found = own.found;
      number = own.line;
      room = omega (arith, count, under);
      few_guards = own.few_guards;
      few_actions = own.few_actions;
      sound = rw (← count) own.sound;
      fault = row-under rows (cells_at c.args.cells) c.args.self.now.count count own.sound under;
    }
