use Rattle.std.proofs.Common.{◌≡◌, List, ℕ, [], ◌∷◌, length, sym, ◌∙◌, ap, arith, length-append}
use Rattle.std.proofs.lemmas.Result.{err_from_is_err_and}
use Rattle.tab_text.specs.Rows.{state_behind, spelled}
use Rattle.tab_text.specs.Reading.{octets_in, named, cells_at}
use Rattle.tab_text.specs.Reader.{last_state}
use Rattle.tab_text.proofs.WellNamed.{well-named}
use Rattle.tab_text.proofs.ReaderLemmas.{spelled-push, last_state-push}
use Rattle.tab_text.proofs.reader.Reader.read.Goals as goal

pub returns-in_err-row-clause-row : goal.returns-in_err-row-clause-row
returns-in_err-row-clause-row c = λ header rows stands.
    let p = err_from_is_err_and c.from_residual.result c.from_residual.ensures.1 in
    rw (p.1, p.2) (c.in_err-row.ensures.row header rows stands)

pub returns-clause-row : goal.returns-clause-row
returns-clause-row c = λ header rows stands.
    let cells = cells_at c.args.cells in
    let read = c.in_ok-row.ensures.row header rows stands in
    let written : List ℕ = octets_in c.in_ok-row.row.state in
    let state : octets_in c.state_behind-state.result ≡ state_behind (last_state [] (spelled rows)) written = c.state_behind-state.ensures ∙ ap (λ (before : List ℕ). state_behind before written) stands.state in
    let pushed = spelled-push rows cells (named c.in_ok-row.row) read.found in
    let rows_are = rw (sym state) at pushed in
    let well = well-named (octets_in c.args.self.now.state) cells (named c.in_ok-row.row) (length rows) read.sound read.found stands.named in
    let well_here = rw (sym c.state_behind-state.ensures) at well in
    let count = stands.count in
    record {
      at = record {
        line = stands.line;
        columns = stands.columns;
        count = omega (arith, count, length-append rows (cells ∷ []));
        state = sym (ap (last_state []) rows_are ∙ last_state-push [] (spelled rows) _);
        named = λ some. well_here.state;
      };
      rows_are = rows_are;
      well = well_here;
      number = read.number;
      room = read.room;
      few_guards = read.few_guards;
      few_actions = read.few_actions;
      fault = read.fault;
    }
