use Rattle.std.proofs.Common.{refl, sym, ◌∙◌}
use Rattle.tab_text.specs.Cells.{row_of, row_cells}
use Rattle.tab_text.specs.Reading.{cells_at}
use Rattle.tab_text.proofs.CellsLemmas.{no-own-fault, many-fault}
use Rattle.tab_text.proofs.cells.read_row.Goals as goal

pub returns-then-has_many : goal.returns-then-has_many
returns-then-has_many c =
    many-fault c.args.is_first (cells_at c.args.cells) (row_of (cells_at c.args.cells)) c.in-Some.row refl c.in-Some.ensures.row (sym c.lacks_cell.ensures ∙ c.if-lacks_cell.false) c.if-has_many.ensures

pub returns : goal.returns
unfolding row_cells
returns c =
    no-own-fault c.args.is_first (cells_at c.args.cells) (row_of (cells_at c.args.cells)) c.in-Some.row refl c.in-Some.ensures.row c.in-Some.ensures.line (sym c.lacks_cell.ensures ∙ c.if-lacks_cell.false) c.if-has_many.ensures
