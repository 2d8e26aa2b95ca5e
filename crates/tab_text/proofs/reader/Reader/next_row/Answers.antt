use Rattle.std.proofs.Common.{◌≡◌, ◌<◌, ◌∷◌, ◌++◌, [], length, Ok, Some, None, ◌∙◌, arith, refl}
use Rattle.std.proofs.lemmas.Result.{err_from_is_err_and}
use Rattle.tab_text.specs.Rows.{names_of, spelled}
use Rattle.tab_text.specs.Cells.{columns_of, row_cells}
use Rattle.tab_text.specs.Faults.{has_room}
use Rattle.tab_text.specs.Passing.{row_fault, fault_behind}
use Rattle.tab_text.specs.Reader.{TakesCells}
use Rattle.text_parts.specs.Left.{line_of, lines_left, lines_more}
use Rattle.tab_text.proofs.GroupLemmas.{cells-line}
use Rattle.tab_text.proofs.ReaderLemmas.{row-next, end-empty, end-some, room-cases}
use Rattle.tab_text.proofs.reader.Reader.next_row.Goals as goal

pub returns-in_err-line : goal.returns-in_err-line
returns-in_err-line c = λ header rows stands.
    let p = err_from_is_err_and c.from_residual.result c.from_residual.ensures.1 in
    rw (p.1, p.2) (row-next header rows (lines_left c.args.self.now.lines) c.args.self.now.count _ stands.count c.in_err-line.ensures.found)

pub returns-then-self-eq0 : goal.returns-then-self-eq0
returns-then-self-eq0 c = λ header rows stands.
    let mid = c.in_ok-line.ensures.kept header rows stands in
    let found = rw c.in-None.is at c.in_ok-line.ensures.found in
    let last = row-next header rows (lines_left c.args.self.now.lines) c.args.self.now.count (Ok None) stands.count found in
    let count = mid.count in
    let zero = c.if-self-eq0.true in
    let none : length rows ≡ 0 = omega (arith, count, zero) in
    last.0 ∙ rw mid.line (end-empty header rows none)

pub returns-else-self-eq0 : goal.returns-else-self-eq0
returns-else-self-eq0 c = λ header rows stands.
    let mid = c.in_ok-line.ensures.kept header rows stands in
    let found = rw c.in-None.is at c.in_ok-line.ensures.found in
    let last = row-next header rows (lines_left c.args.self.now.lines) c.args.self.now.count (Ok None) stands.count found in
    let count = mid.count in
    let more = c.if-self-eq0.false in
    let some : 0 < length rows = omega (arith, count, more) in
    record { groups = last.1; fault = last.0 ∙ end-some header rows some; some_row = some }

pub returns-in-Err : goal.returns-in-Err
returns-in-Err c = λ header rows stands.
    let mid = c.in_ok-line.ensures.kept header rows stands in
    let found = rw c.in-Some.is at c.in_ok-line.ensures.found in
    let line = line_of c.in-Some.line in
    let left = c.next_line.new.self.lines in
    let next = row-next header rows (lines_left c.args.self.now.lines) c.args.self.now.count (Ok (Some (line, lines_left left))) stands.count found in
    let fault : row_fault rows (row_cells (columns_of header.octets) line (lines_more left)) ≡ Some c.in-Err.code = rw (← mid.columns) (c.in-Err.ensures.row header rows mid) in
    next.fault ∙ rw fault refl

pub returns-in-Ok : goal.returns-in-Ok
returns-in-Ok c = λ header rows stands.
    let mid = c.in_ok-line.ensures.kept header rows stands in
    let found = rw c.in-Some.is at c.in_ok-line.ensures.found in
    let line = line_of c.in-Some.line in
    let left = c.next_line.new.self.lines in
    let cells = row_cells (columns_of header.octets) line (lines_more left) in
    let next = row-next header rows (lines_left c.args.self.now.lines) c.args.self.now.count (Ok (Some (line, lines_left left))) stands.count found in
    let taken : TakesCells header rows cells c.in-Ok.row c.read.new.self = rw (← mid.columns) (c.in-Ok.ensures.row header rows mid) in
    let number : c.in-Ok.row.line ≡ line.number = taken.number ∙ cells-line (columns_of header.octets) line (lines_more left) in (
      cells,
      record {
        taken = taken;
        groups = rw c.in-Ok.ensures.lines next.groups;
        shorter = rw c.in-Ok.ensures.lines next.shorter;
        fault = next.fault ∙ rw (taken.fault, c.in-Ok.ensures.lines) (room-cases (has_room (names_of (spelled (rows ++ cells ∷ [])))) line.number c.in-Ok.row.line (fault_behind header (rows ++ cells ∷ []) (lines_left left)) number);
      },
    )
