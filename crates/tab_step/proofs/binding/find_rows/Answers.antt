use Rattle.std.proofs.Common.{◌≡◌, ◌<◌, ◌++◌, ◌∷◌, [], length}
use Rattle.std.proofs.lemmas.List.{take_more}
use Rattle.tab_step.specs.Bind.{lacking_in, IsPlacesOf}
use Rattle.tab_step.proofs.BindLemmas.{flat_map-none, AllZip-more, none-first}
use Rattle.tab_step.proofs.binding.find_rows.Goals as goal

pub unreachable-requires : goal.unreachable-requires
unreachable-requires c =
    let rows = c.rows-row-items.ensures.rows in
    let within : c.loop-row.row-index < length c.args.table.now.rows = rw (← rows) c.loop-row-test.true in
    let none = flat_map-none (lacking_in c.args.book.now c.args.table.now) c.args.table.now.rows c.loop-row.row-index c.row-item.result within c.requires in
    let nothing : lacking_in c.args.book.now c.args.table.now c.row-item.result ≡ [] = rw (← rows, ← c.row-item.is) at none in
    none-first _ _ nothing c.in-Err.ensures.err

pub loop-row-preserved : goal.loop-row-preserved
loop-row-preserved c =
    let pushed : c.push.new.self.items ≡ c.loop-row.places.items ++ c.in-Ok.found ∷ [] = c.in_ok-push-in-Ok.ensures.items in
    rw (take_more c.rows-row-items.result.now c.loop-row.row-index c.row-item.result c.loop-row-test.true, ← c.row-item.is, pushed)
    (AllZip-more (IsPlacesOf c.args.book.now c.args.table.now) _ _ _ _ c.loop-row.invariant c.in-Ok.ensures.ok)
