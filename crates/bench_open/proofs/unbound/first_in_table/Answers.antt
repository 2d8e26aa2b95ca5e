use Rattle.std.proofs.Common.{◌≡◌, ◌<◌, [], length, sym, take}
use Rattle.std.specs.List.{flat_map}
use Rattle.tab_step.specs.Bind.{lacking_in}
use Rattle.tab_step.proofs.BindLemmas.{first-flat_map}
use Rattle.bench_open.proofs.UnboundLemmas.{rows-more}
use Rattle.bench_open.proofs.unbound.first_in_table.Goals as goal

pub returns-in-Some : goal.returns-in-Some
returns-in-Some c =
    let rows = c.rows-row-items.ensures.rows in
    let within : c.loop-row.row-index < length c.args.table.now.rows = rw (← rows) c.loop-row-test.true in
    let none : flat_map (lacking_in c.args.laws.now c.args.table.now) (take c.loop-row.row-index c.args.table.now.rows) ≡ [] = rw (← rows) c.loop-row.invariant in
    sym (first-flat_map (lacking_in c.args.laws.now c.args.table.now) c.args.table.now.rows c.loop-row.row-index c.row-item.result _ within none (rw (← rows, ← c.row-item.is) (sym c.in-Some.ensures)))

pub loop-row-preserved : goal.loop-row-preserved
loop-row-preserved c =
    rows-more c.args.laws.now c.args.table.now c.rows-row-items.result.now c.loop-row.row-index c.row-item.result c.loop-row-test.true c.loop-row.invariant (rw (← c.row-item.is) (sym c.in_default.ensures))
