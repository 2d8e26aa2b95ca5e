use Rattle.std.proofs.Common.{◌≡◌, ◌∙◌, [], None, Some, ap, refl, subst, sym}
use Rattle.std.specs.Prelude.{OnOk, OnErr, slice_set, unwrap_or}
use Rattle.bench_item.specs.declared.step.Step.TheVariants as steps
use Rattle.bench_shard.specs.Tasks.{IsTask}
use Rattle.bench_spec.specs.Legal.{MayFollow}
use Rattle.bench_spec.specs.Refusal.{refusal}
use Rattle.bench_spec.specs.Taken.{Replays}
use Rattle.bench_core.specs.Inside.{settings_in, stored_in}
use Rattle.bench_core.specs.Working.{work_entry}
use Rattle.bench_core.proofs.DoneLemmas.{Works, run_of, work-next, work-shard, works-page, works-paged, works-placed, works-refused, works-whole}
use Rattle.bench_core.proofs.RedoneLemmas.{redone-done, redone-other, redone-taken}
use Rattle.bench_core.proofs.keeping.Core.redo.Goals as goal

same-some : {X : Type 0} (a b : X) → Some a ≡ Some b → a ≡ b
same-some a b e = cc

pub unreachable-requires : goal.unreachable-requires
unreachable-requires c =
    let w = c.self.inside in
    let could = subst (λ run. refusal run.settings run.log [] (steps.Work c.args.shard) ≡ None) (sym c.self.view_is) c.requires in
    let at = work-shard (settings_in w) w.log.entries [] (stored_in w) c.args.shard c.index.result.now c.self.invariant.whole.tied could c.index.ensures in
    work-next (settings_in w) w.log.entries [] (stored_in w) c.args.shard c.index.result.now c.self.invariant.whole.tied could at (c.in_ok-task.ensures.none.0 c.in-None.is)

pub redo_task-requires : goal.redo_task-requires
redo_task-requires c =
    let w = c.self.inside in
    let could = subst (λ run. refusal run.settings run.log [] (steps.Work c.args.shard) ≡ None) (sym c.self.view_is) c.requires in
    let one = work-shard (settings_in w) w.log.entries [] (stored_in w) c.args.shard c.index.result.now c.self.invariant.whole.tied could c.index.ensures in
    let two = work-shard (settings_in w) w.log.entries [] (stored_in w) c.args.shard c.index_mut.result.now c.self.invariant.whole.tied could c.index_mut.ensures.value in
    let is = rw c.in-Some.is at c.in_ok-task.ensures.task in
    record { task = subst (λ v. IsTask w.roles.laws v c.in-Some.task) (same-some c.index.result.now c.index_mut.result.now (sym one ∙ two)) is }

-- the shard that works, with its page
works : (c : goal.After-drop-task-2) → Works (settings_in c.self.inside) c.self.inside.log.entries [] (stored_in c.self.inside) c.self.inside.pages.items c.self.inside.undo.records c.args.shard c.unwrap_or-place.result c.index_mut.result.now c.index_mut-2.result.now c.in-Some.task
works c =
    let w = c.self.inside in
    let could = subst (λ run. refusal run.settings run.log [] (steps.Work c.args.shard) ≡ None) (sym c.self.view_is) c.requires in
    let one = work-shard (settings_in w) w.log.entries [] (stored_in w) c.args.shard c.index.result.now c.self.invariant.whole.tied could c.index.ensures in
    let two = work-shard (settings_in w) w.log.entries [] (stored_in w) c.args.shard c.index_mut.result.now c.self.invariant.whole.tied could c.index_mut.ensures.value in
    let is = rw c.in-Some.is at c.in_ok-task.ensures.task in
    record {
      whole = c.self.invariant.whole;
      kept = refl;
      could = could;
      some = c.self.invariant.paged;
      read = c.index_mut.ensures.value;
      task_is = subst (λ v. IsTask w.roles.laws v c.in-Some.task) (same-some c.index.result.now c.index_mut.result.now (sym one ∙ two)) is;
      place = c.unwrap_or-place.ensures ∙ ap (λ o. unwrap_or o 0) c.page.ensures;
      page_read = c.index_mut-2.ensures.value;
    }

pub invariant_of-self : goal.invariant_of-self
invariant_of-self c =
    let w = c.self.inside in
    let h = works c in
    record {
      whole = works-whole (settings_in w) w.log.entries c.redo_task.new.log.entries [] (stored_in w) w.pages.items w.undo.records c.redo_task.new.undo.records c.args.shard c.unwrap_or-place.result c.index_mut.result.now c.redo_task.new.shard c.index_mut-2.result.now c.redo_task.new.page c.in-Some.task c.redo_task.result h (redone-done (settings_in w) w.log.entries c.redo_task.new.log.entries c.args.shard c.unwrap_or-place.result c.index_mut.result.now c.redo_task.new.shard c.index_mut-2.result.now c.redo_task.new.page w.undo.records c.redo_task.new.undo.records c.args.item c.args.handled c.redo_task.result c.redo_task.ensures.ok) c.redo_task.ensures.err;
      listens = c.self.invariant.listens;
      pages = works-paged w.page_count w.log.entries c.redo_task.new.log.entries w.pages.items w.roles c.args.shard c.unwrap_or-place.result c.index_mut.result.now c.redo_task.new.shard c.index_mut-2.result.now c.redo_task.new.page w.undo.records c.redo_task.new.undo.records c.redo_task.result
          (works-page (settings_in w) w.log.entries [] (stored_in w) w.pages.items w.undo.records c.args.shard c.unwrap_or-place.result c.index_mut.result.now c.index_mut-2.result.now c.in-Some.task h)
          c.self.invariant.pages (redone-done (settings_in w) w.log.entries c.redo_task.new.log.entries c.args.shard c.unwrap_or-place.result c.index_mut.result.now c.redo_task.new.shard c.index_mut-2.result.now c.redo_task.new.page w.undo.records c.redo_task.new.undo.records c.args.item c.args.handled c.redo_task.result c.redo_task.ensures.ok) c.redo_task.ensures.err;
      paged = c.self.invariant.paged;
      shards = c.self.invariant.shards;
      placed = works-placed w.wheel w.log.entries c.redo_task.new.log.entries w.roles c.args.shard c.unwrap_or-place.result c.index_mut.result.now c.redo_task.new.shard c.index_mut-2.result.now c.redo_task.new.page w.undo.records c.redo_task.new.undo.records c.redo_task.result
          c.self.invariant.placed (redone-done (settings_in w) w.log.entries c.redo_task.new.log.entries c.args.shard c.unwrap_or-place.result c.index_mut.result.now c.redo_task.new.shard c.index_mut-2.result.now c.redo_task.new.page w.undo.records c.redo_task.new.undo.records c.args.item c.args.handled c.redo_task.result c.redo_task.ensures.ok) c.redo_task.ensures.err;
    }

pub returns-clause-ok : goal.returns-clause-ok
returns-clause-ok c =
    let w = c.self.inside in
    subst (λ run. OnOk c.redo_task.result (Replays run (run_of (settings_in w) c.redo_task.new.log.entries (slice_set w.shards.items c.args.shard c.redo_task.new.shard)) (work_entry c.args.shard c.args.item c.args.handled))) c.self.view_is
    (redone-taken (settings_in w) w.log.entries c.redo_task.new.log.entries (stored_in w) w.pages.items w.undo.records c.redo_task.new.undo.records c.args.shard c.unwrap_or-place.result c.index_mut.result.now c.redo_task.new.shard c.index_mut-2.result.now c.redo_task.new.page c.in-Some.task c.args.item c.args.handled c.redo_task.result (works c) c.redo_task.ensures.ok)

pub returns-clause-illegal : goal.returns-clause-illegal
returns-clause-illegal c illegal =
    let w = c.self.inside in
    subst (λ run. MayFollow run.settings run.log (work_entry c.args.shard c.args.item c.args.handled) → ⊥) c.self.view_is
    (redone-other (settings_in w) w.log.entries [] (stored_in w) w.pages.items w.undo.records c.args.shard c.unwrap_or-place.result c.index_mut.result.now c.index_mut-2.result.now c.in-Some.task c.args.item c.args.handled (works c) (c.redo_task.ensures.illegal illegal))

pub returns-clause-err : goal.returns-clause-err
returns-clause-err c =
    let w = c.self.inside in
    subst (λ run. OnErr c.redo_task.result (run_of (settings_in w) c.redo_task.new.log.entries (slice_set w.shards.items c.args.shard c.redo_task.new.shard) ≡ run)) c.self.view_is
    (works-refused (settings_in w) w.log.entries c.redo_task.new.log.entries [] (stored_in w) w.pages.items w.undo.records c.redo_task.new.undo.records c.args.shard c.unwrap_or-place.result c.index_mut.result.now c.redo_task.new.shard c.index_mut-2.result.now c.redo_task.new.page c.in-Some.task c.redo_task.result (works c) c.redo_task.ensures.err)
