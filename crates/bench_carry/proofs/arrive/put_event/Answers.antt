use Rattle.std.proofs.Common.{◌≡◌, ◌∙◌, ◌∷◌, [], Some, ap, length}
use Rattle.std.specs.Prelude.{get_or, slice_get}
use Rattle.std.proofs.lemmas.Option.{slice_get-get_or}
use Rattle.bench_item.specs.Keys.{home}
use Rattle.bench_queue.specs.Inbox.{put_in, without_in}
use Rattle.bench_shard.specs.View.{with_inbox}
use Rattle.bench_views.specs.Behind.{changed_at}
use Rattle.bench_carry.proofs.LiftLemmas.{set-back, set-changed}
use Rattle.bench_carry.proofs.arrive.put_event.Goals as goal

pub returns-in-Ok-clause-came : goal.returns-in-Ok-clause-came
returns-in-Ok-clause-came c =
    let shards = c.args.shards.now in
    let place = c.home-place.result in
    let old = get_or shards place c.index-shards-place.result in
    let there : slice_get shards place ≡ Some old = slice_get-get_or shards place c.index-shards-place.result c.home-place.ensures.within in
    set-changed shards place old c.put_kept.new.self (λ v. with_inbox v (put_in v.inbox (c.args.item ∷ []))) there c.in-Ok.ensures.ok
    ∙ ap (λ p. changed_at p (λ v. with_inbox v (put_in v.inbox (c.args.item ∷ []))) shards)
    (c.home-place.ensures.is ∙ ap (λ k. home (length shards) k.name) c.key.ensures)

pub returns-in-Ok-clause-undone : goal.returns-in-Ok-clause-undone
returns-in-Ok-clause-undone c =
    let shards = c.args.shards.now in
    let place = c.home-place.result in
    let old = get_or shards place c.index-shards-place.result in
    let there : slice_get shards place ≡ Some old = slice_get-get_or shards place c.index-shards-place.result c.home-place.ensures.within in
    λ s. ap (λ xs. record s { shards = xs })
    (set-back shards place old c.put_kept.new.self (λ v. with_inbox v (put_in v.inbox (c.args.item ∷ []))) (λ v. with_inbox v
    (without_in v.inbox 1)) there
    c.in-Ok.ensures.ok c.in-Ok.ensures.undone)
