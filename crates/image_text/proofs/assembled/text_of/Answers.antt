use Rattle.std.proofs.Common.{◌≡◌, ℕ, List, Option, Some, ap, sym, ◌∙◌}
use Rattle.fault_text.specs.Faults.{unbound_text}
use Rattle.fault_text.specs.Spots.{unbound_place}
use Rattle.fault_text.specs.declared.spots.RowPlace.{RowPlace}
use Rattle.tab_text.specs.Rows.{table_of}
use Rattle.image_text.specs.Assembled.{image_text}
use Rattle.image_text.proofs.Refusals.{refusal-none, refusal-unbound, refusal-unparsed}
use Rattle.image_text.proofs.assembled.text_of.Goals as goal

-- the table's text has a fault
pub returns-in-Err-Fault : goal.returns-in-Err-Fault
returns-in-Err-Fault c =
    refusal-unparsed c.args.book.now c.args.text.now c.in-Err-Fault.fault (rw (← c.in-Err-Fault.field-0-is) c.in-Err-Fault.ensures.refused)
    ∙ ap Some (sym c.in_ok-known_fault-in-Err-Fault.ensures)

-- the table is bound
pub returns-in_ok-image_text-in-Ok-bind : goal.returns-in_ok-image_text-in-Ok-bind
returns-in_ok-image_text-in-Ok-bind c =
    let found = rw c.in-Ok.ensures.table at c.in-Ok-bind.ensures.found in (
      refusal-none c.args.book.now c.args.text.now c.in-Ok.ensures.sound found,
      c.in_ok-image_text-in-Ok-bind.ensures ∙ ap image_text (c.in-Ok-bind.ensures.table ∙ c.in-Ok.ensures.table),
    )

-- the book lacks a name
pub returns-in_ok-unbound_text-in-Err-Missing : goal.returns-in_ok-unbound_text-in-Err-Missing
returns-in_ok-unbound_text-in-Err-Missing c =
    let lacks = rw (c.in-Ok.ensures.table, c.in-Err-Missing.field-0-is) at c.in-Err-Missing.ensures.err in
    let here : c.unbound_place-place.result ≡ unbound_place c.args.book.now (table_of c.args.text.now) = rw c.in-Ok.ensures.table at c.unbound_place-place.ensures in
    refusal-unbound c.args.book.now c.args.text.now _ c.in-Ok.ensures.sound lacks
    ∙ ap (λ (place : Option RowPlace). Some (unbound_text c.args.book.now place c.in-Err-Missing.name)) (sym here)
    ∙ ap (λ (name : List ℕ). Some (unbound_text c.args.book.now c.unbound_place-place.result name)) (sym c.as_slice.ensures)
    ∙ ap Some (sym c.in_ok-unbound_text-in-Err-Missing.ensures)
