use Rattle.std.proofs.Common.{◌≡◌, refl, ap, ◌∙◌}
use Rattle.tab_step.specs.Moves.{name_at, scene_of}
use Rattle.tab_step.proofs.BindLemmas.{places-in}
use Rattle.tab_image.specs.declared.walk.Walk.{Walk}
use Rattle.tab_image.proofs.RunLemmas.{begins-at, runs-row, runs-all}
use Rattle.tab_image.proofs.running.run_into.Goals as goal

pub finish-requires-clause-on_way : goal.finish-requires-clause-on_way
finish-requires-clause-on_way g c =
    let scene = scene_of c.args.machine.now.regs c.args.event.now.facts in
    let found = rw c.laws.ensures at c.entry_of.ensures in
    begins-at c.args.registry.now.book c.args.program.now scene c.new-walk.result c.entry_of.result c.args.machine.now.state c.args.event.now.kind c.in-Some.begin c.requires.loaded found c.in-Some.is c.new-walk.ensures

pub act_all-requires-clause-registered : goal.act_all-requires-clause-registered
act_all-requires-clause-registered g c =
    rw c.as_slice.ensures.value (places-in c.args.registry.now.book.acts (name_at c.args.program.now.image.actions) c.in-Row.ensures.ended.0 c.finish.new.walk.acts c.in-Row.ensures.ended.2)

pub returns-in-Row : goal.returns-in-Row
returns-in-Row g c =
    let laws = c.args.registry.now.book in
    let program = c.args.program.now in
    let found = rw c.laws.ensures at c.entry_of.ensures in
    let begin : c.finish.new.walk.begin ≡ c.in-Some.begin = c.in-Row.ensures.begin ∙ ap (λ (w : Walk). w.begin) c.new-walk.ensures in
    let to = rw begin at c.in-Row.ensures.ended.1 in
    let runs = rw c.as_slice.ensures.value at c.act_all.ensures.runs in
    runs-row laws program c.args.machine.now c.args.event.now _ c.entry_of.result c.in-Some.begin c.in-Row.row c.in-Row.next c.in-Row.ensures.ended.0 c.finish.new.walk.acts c.requires.loaded found c.in-Some.is to c.in-Row.ensures.ended.2 refl refl runs c.act_all.ensures.end

pub returns-in-NoRow : goal.returns-in-NoRow
returns-in-NoRow g c =
    let laws = c.args.registry.now.book in
    let program = c.args.program.now in
    let found = rw c.laws.ensures at c.entry_of.ensures in
    let begin : c.finish.new.walk.begin ≡ c.in-Some.begin = c.in-NoRow.ensures.begin ∙ ap (λ (w : Walk). w.begin) c.new-walk.ensures in
    let to = rw begin at c.in-NoRow.ensures.ended in
    runs-all laws program c.args.machine.now c.args.event.now c.stay-in-NoRow.new.room c.entry_of.result c.in-Some.begin c.requires.loaded found c.in-Some.is to c.stay-in-NoRow.ensures.row c.stay-in-NoRow.ensures.stays
