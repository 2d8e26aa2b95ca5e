use Rattle.std.proofs.Common.{sym, ◌∙◌, subst}
use Rattle.tab_text.specs.Rows.{rows_of, row_lines, IsNumberedTable}
use Rattle.tab_text.specs.Rooms.{rooms_names}
use Rattle.tab_text.proofs.TableLemmas.{table-from, table-is, table_of-is}
use Rattle.tab_text.proofs.NumberLemmas.{numbered-table}
use Rattle.tab_text.proofs.parsing.parse.Goals as goal

pub new-requires : goal.new-requires
new-requires c =
    let rows = rows_of c.args.text.now in
    let table = table-from rows (row_lines c.args.text.now) c.in_ok-rows.ensures.short c.in_ok-rows.ensures.each c.in_ok-names.ensures.room in
    let same = table-is rows (row_lines c.args.text.now) (rooms_names c.in_ok-names.names) _ _ _ _ _ _ c.in_ok-names.ensures.names c.in_ok-states.ensures c.in_ok-kinds.ensures c.in_ok-guards.ensures c.in_ok-actions.ensures c.in_ok-rows.ensures.rows c.in_ok-rows.ensures.lines in
    subst IsNumberedTable (sym same) (numbered-table rows (row_lines c.args.text.now) c.in_ok-rows.ensures.short.well_named table)

pub returns-clause-table : goal.returns-clause-table
returns-clause-table c =
    let rows = rows_of c.args.text.now in
    let same = table-is rows (row_lines c.args.text.now) (rooms_names c.in_ok-names.names) _ _ _ _ _ _ c.in_ok-names.ensures.names c.in_ok-states.ensures c.in_ok-kinds.ensures c.in_ok-guards.ensures c.in_ok-actions.ensures c.in_ok-rows.ensures.rows c.in_ok-rows.ensures.lines in
    c.new.ensures ∙ same ∙ table_of-is c.args.text.now
