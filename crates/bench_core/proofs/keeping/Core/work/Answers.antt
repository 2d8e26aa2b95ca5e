use Rattle.std.proofs.Common.{◌≡◌, ◌∙◌, None, Some, ap, refl, subst, sym}
use Rattle.std.specs.Prelude.{OnOk, OnErr, slice_set, unwrap_or}
use Rattle.bench_item.specs.declared.step.Step.TheVariants as steps
use Rattle.bench_shard.specs.Tasks.{IsTask}
use Rattle.bench_spec.specs.Refusal.{refusal}
use Rattle.bench_spec.specs.Taken.{Takes}
use Rattle.bench_core.specs.Inside.{paused_in, settings_in, stored_in}
use Rattle.bench_core.proofs.DoneLemmas.{Works, run_of, work-next, work-shard, works-page, works-paged, works-placed, works-refused, works-taken, works-whole}
use Rattle.bench_core.proofs.keeping.Core.work.Goals as goal
use Rattle.bench_core.proofs.keeping.Core.work.Given.{Over}

same-some : {X : Type 0} (a b : X) → Some a ≡ Some b → a ≡ b
same-some a b e = cc

pub unreachable-requires : goal.unreachable-requires
unreachable-requires g c =
    let w = c.self.inside in
    let could = subst (λ run. refusal run.settings run.log run.paused (steps.Work c.args.shard) ≡ None) (sym c.self.view_is) c.requires.could in
    let at = work-shard (settings_in w) w.log.entries (paused_in w) (stored_in w) c.args.shard c.index.result.now c.self.invariant.whole.tied could c.index.ensures in
    work-next (settings_in w) w.log.entries (paused_in w) (stored_in w) c.args.shard c.index.result.now c.self.invariant.whole.tied could at (c.in_ok-task.ensures.none.0 c.in-None.is)

pub do_task-requires-clause-task : goal.do_task-requires-clause-task
do_task-requires-clause-task g c =
    let w = c.self.inside in
    let could = subst (λ run. refusal run.settings run.log run.paused (steps.Work c.args.shard) ≡ None) (sym c.self.view_is) c.requires.could in
    let one = work-shard (settings_in w) w.log.entries (paused_in w) (stored_in w) c.args.shard c.index.result.now c.self.invariant.whole.tied could c.index.ensures in
    let two = work-shard (settings_in w) w.log.entries (paused_in w) (stored_in w) c.args.shard c.index_mut.result.now c.self.invariant.whole.tied could c.index_mut.ensures.value in
    let is = rw c.in-Some.is at c.in_ok-task.ensures.task in
    subst (λ v. IsTask w.roles.laws v c.in-Some.task) (same-some c.index.result.now c.index_mut.result.now (sym one ∙ two)) is

-- the shard that works, with its page
works : (g : Over) (c : goal.After-self-2-1 g) → Works (settings_in c.self.inside) c.self.inside.log.entries (paused_in c.self.inside) (stored_in c.self.inside) c.self.inside.pages.items c.self.inside.undo.records c.args.shard c.unwrap_or-place.result c.index_mut.result.now c.index_mut-2.result.now c.in-Some.task
works g c =
    let w = c.self.inside in
    let could = subst (λ run. refusal run.settings run.log run.paused (steps.Work c.args.shard) ≡ None) (sym c.self.view_is) c.requires.could in
    let one = work-shard (settings_in w) w.log.entries (paused_in w) (stored_in w) c.args.shard c.index.result.now c.self.invariant.whole.tied could c.index.ensures in
    let two = work-shard (settings_in w) w.log.entries (paused_in w) (stored_in w) c.args.shard c.index_mut.result.now c.self.invariant.whole.tied could c.index_mut.ensures.value in
    let is = rw c.in-Some.is at c.in_ok-task.ensures.task in
    record {
      whole = c.self.invariant.whole;
      kept = refl;
      could = could;
      some = c.self.invariant.paged;
      read = c.index_mut.ensures.value;
      task_is = subst (λ v. IsTask w.roles.laws v c.in-Some.task) (same-some c.index.result.now c.index_mut.result.now (sym one ∙ two)) is;
      place = c.unwrap_or-place.ensures ∙ ap (λ o. unwrap_or o 0) c.page.ensures;
      page_read = c.index_mut-2.ensures.value;
    }

pub invariant_of-self : goal.invariant_of-self
invariant_of-self g c =
    let w = c.self.inside in
    let h = works g c in
    record {
      whole = works-whole (settings_in w) w.log.entries c.do_task.new.log.entries (paused_in w) (stored_in w) w.pages.items w.undo.records c.do_task.new.undo.records c.args.shard c.unwrap_or-place.result c.index_mut.result.now c.do_task.new.shard c.index_mut-2.result.now c.do_task.new.page c.in-Some.task c.do_task.result h c.do_task.ensures.ok c.do_task.ensures.err;
      listens = c.self.invariant.listens;
      pages = works-paged w.page_count w.log.entries c.do_task.new.log.entries w.pages.items w.roles c.args.shard c.unwrap_or-place.result c.index_mut.result.now c.do_task.new.shard c.index_mut-2.result.now c.do_task.new.page w.undo.records c.do_task.new.undo.records c.do_task.result
          (works-page (settings_in w) w.log.entries (paused_in w) (stored_in w) w.pages.items w.undo.records c.args.shard c.unwrap_or-place.result c.index_mut.result.now c.index_mut-2.result.now c.in-Some.task h)
          c.self.invariant.pages c.do_task.ensures.ok c.do_task.ensures.err;
      paged = c.self.invariant.paged;
      shards = c.self.invariant.shards;
      placed = works-placed w.wheel w.log.entries c.do_task.new.log.entries w.roles c.args.shard c.unwrap_or-place.result c.index_mut.result.now c.do_task.new.shard c.index_mut-2.result.now c.do_task.new.page w.undo.records c.do_task.new.undo.records c.do_task.result
          c.self.invariant.placed c.do_task.ensures.ok c.do_task.ensures.err;
    }

pub returns-clause-ok : goal.returns-clause-ok
returns-clause-ok g c =
    let w = c.self.inside in
    subst (λ run. OnOk c.do_task.result (Takes run (run_of (settings_in w) c.do_task.new.log.entries (slice_set w.shards.items c.args.shard c.do_task.new.shard)) (steps.Work c.args.shard))) c.self.view_is
    (works-taken (settings_in w) w.log.entries c.do_task.new.log.entries (stored_in w) w.pages.items w.undo.records c.do_task.new.undo.records c.args.shard c.unwrap_or-place.result c.index_mut.result.now c.do_task.new.shard c.index_mut-2.result.now c.do_task.new.page c.in-Some.task c.do_task.result (works g c) c.do_task.ensures.ok)

pub returns-clause-err : goal.returns-clause-err
returns-clause-err g c =
    let w = c.self.inside in
    subst (λ run. OnErr c.do_task.result (run_of (settings_in w) c.do_task.new.log.entries (slice_set w.shards.items c.args.shard c.do_task.new.shard) ≡ run)) c.self.view_is
    (works-refused (settings_in w) w.log.entries c.do_task.new.log.entries (paused_in w) (stored_in w) w.pages.items w.undo.records c.do_task.new.undo.records c.args.shard c.unwrap_or-place.result c.index_mut.result.now c.do_task.new.shard c.index_mut-2.result.now c.do_task.new.page c.in-Some.task c.do_task.result (works g c) c.do_task.ensures.err)
