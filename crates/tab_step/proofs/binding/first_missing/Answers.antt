use Rattle.std.proofs.Common.{◌≡◌, ◌<◌, [], length, take}
use Rattle.std.specs.List.{flat_map}
use Rattle.tab_step.specs.Bind.{lacking_in}
use Rattle.tab_step.proofs.BindLemmas.{first-flat_map}
use Rattle.tab_step.proofs.binding.first_missing.Goals as goal

pub returns-in-Err-clause-some : goal.returns-in-Err-clause-some
returns-in-Err-clause-some c =
    let rows = c.rows-row-items.ensures.rows in
    let within : c.loop-row.row-index < length c.args.table.now.rows = rw (← rows) c.loop-row-test.true in
    let none : flat_map (lacking_in c.args.book.now c.args.table.now) (take c.loop-row.row-index c.args.table.now.rows) ≡ [] = rw (← rows) c.loop-row.invariant in
    first-flat_map (lacking_in c.args.book.now c.args.table.now) c.args.table.now.rows c.loop-row.row-index c.row-item.result _ within none (rw (← rows, ← c.row-item.is) c.in-Err.ensures.err)
