use Rattle.std.proofs.Common.{◌≡◌, ◌∙◌, refl, sym, subst}
use Rattle.std.specs.Prelude.{IsSome}
use Rattle.bench_shard.specs.Works.{AreEffects, BecomesIn, Fits}
use Rattle.bench_core.proofs.RedoneLemmas.{redone-kept}
use Rattle.bench_core.proofs.replay_work.redo_task.Goals as goal

pub returns-in_ok-write-in-Some-clause-ok : goal.returns-in_ok-write-in-Some-clause-ok
returns-in_ok-write-in-Some-clause-ok c =
    let same : c.args.task.now.item ≡ c.args.item = sym c.plain.ensures ∙ c.if-not-are_machine_items_same.ensures.0 refl in
    let some : IsSome c.in_ok-check.field-0 = subst IsSome (sym c.in-Some.is) refl in
    redone-kept _ _ _ c.args.item _ c.args.handled _ c.in-Some.effects c.args.shard.now _ c.args.page.now c.check.new.page _ _ _ _ _
    c.in_ok-new-in-Some.ensures c.in_ok-keep-in-Some.ensures
    (subst (λ i. Fits c.args.shard.now i c.args.handled) same (c.in_ok-check.ensures.fits some))
    (subst (λ i. BecomesIn c.args.roles.now c.args.page.now.book c.args.shard.now i c.args.handled) same (c.in_ok-check.ensures.exact.0 some))
    (subst (λ i. AreEffects c.args.roles.now.laws c.args.shard.now i c.args.handled c.in-Some.effects) same (rw c.in-Some.is at c.in_ok-check.ensures.effects))
    c.check.ensures.page
    c.in_ok-write-in-Some.ensures.ok
