use Rattle.std.proofs.Common.{◌≡◌, sym}
use Rattle.tab_text.specs.Cells.{row_cells}
use Rattle.tab_text.specs.Reading.{cells_at, cell_octets}
use Rattle.tab_text.proofs.cells.RowLines.next.Goals as goal

pub returns : goal.returns
unfolding row_cells
returns c =
    let same : (cells_at c.args.self).next ≡ cell_octets c.cell.result = sym c.cell.ensures.octets in
    rw same c.joined.ensures
