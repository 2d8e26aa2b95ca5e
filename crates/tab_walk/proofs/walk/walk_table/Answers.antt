use Rattle.std.proofs.Common.{◌∙◌}
use Rattle.tab_walk.proofs.PourLemmas.{IsToldWith-map}
use Rattle.tab_walk.proofs.WalkLemmas.{IsWalked-bound, IsWalked-unbound, IsWalked-unparsed}
use Rattle.tab_walk.proofs.walk.walk_table.Goals as goal

-- the table's text has a fault
pub returns-in-Err-clause-told : goal.returns-in-Err-clause-told
returns-in-Err-clause-told g c =
    IsToldWith-map g.O.ByteSink.contents g.O.ByteSink.failures g.O.ByteSink.idle _ _ c.args.sink.now c.unparsed.new.sink c.unparsed.result
    (λ text status is. IsWalked-unparsed c.args.registry.now.book c.args.options c.args.text.now c.args.events.now text status c.in-Err.error c.in-Err.ensures.refused (rw c.laws-book.ensures at is))
    c.unparsed.ensures.told

-- the table is bound
pub returns-in-Ok-bind-clause-told : goal.returns-in-Ok-bind-clause-told
returns-in-Ok-bind-clause-told g c =
    let same = c.in-Ok-bind.ensures.table ∙ c.in-Ok.ensures.table in
    let found = rw (c.in-Ok.ensures.table, c.laws-book.ensures) at c.in-Ok-bind.ensures.found in
    IsToldWith-map g.O.ByteSink.contents g.O.ByteSink.failures g.O.ByteSink.idle _ _ c.args.sink.now c.walk_by.new.sink c.walk_by.result
    (λ text status is. IsWalked-bound c.args.registry.now.book c.args.options c.args.text.now c.args.events.now text status _ same c.in-Ok.ensures.sound found is)
    c.walk_by.ensures.told

-- the book lacks a name
pub returns-in-Err-bind-clause-told : goal.returns-in-Err-bind-clause-told
returns-in-Err-bind-clause-told g c =
    let lacks = rw (c.in-Ok.ensures.table, c.laws-book.ensures) at c.in-Err-bind.ensures.err in
    IsToldWith-map g.O.ByteSink.contents g.O.ByteSink.failures g.O.ByteSink.idle _ _ c.args.sink.now c.unbound.new.sink c.unbound.result
    (λ text status is. IsWalked-unbound c.args.registry.now.book c.args.options c.args.text.now c.args.events.now text status c.in-Err-bind.why c.in-Ok.ensures.sound lacks (rw (c.unbound_place-place.ensures, c.in-Ok.ensures.table, c.laws-book.ensures) at is))
    c.unbound.ensures.told
