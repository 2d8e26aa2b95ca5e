use Rattle.std.proofs.Common.{sym, ◌∙◌}
use Rattle.text_parts.specs.Left.{line_of, lines_more}
use Rattle.tab_text.proofs.TokenLemmas.{action-words}
use Rattle.tab_text.proofs.cells.RowLines.action.Goals as goal

pub returns : goal.returns
returns c =
    let row = c.args.self in
    c.cell.ensures.words ∙ sym (action-words row.columns (line_of row.line) (lines_more row.behind))
