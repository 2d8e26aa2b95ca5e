use Rattle.std.proofs.Common.{refl, sym, ◌∙◌, ap}
use Rattle.tab_text.specs.Names.{is_name}
use Rattle.tab_text.specs.Cells.{actions_of, is_state}
use Rattle.tab_text.specs.Reading.{cells_at}
use Rattle.tab_text.proofs.CellsLemmas.{row-found, each-of-three}
use Rattle.tab_text.proofs.cells.row_of.Goals as goal

pub returns-clause-row : goal.returns-clause-row
returns-clause-row c =
    let cells = cells_at c.args.cells in
    let kind = c.in-Some.kind.now in
    let named = each-of-three (is_state cells.state) (is_name kind) (is_name cells.next) (c.if-not-are_names.ensures cells.state cells.next c.state-state.ensures c.next-next.ensures) in
    row-found cells _ _ _ _ _ (sym c.event-words.ensures ∙ c.in-Some.ensures) named.0 named.1 named.2 refl (ap actions_of (sym c.action.ensures)) c.in-Some-condition_of.ensures c.in-Some-actions_of.ensures c.state-state.ensures c.name_of.ensures c.next-next.ensures
