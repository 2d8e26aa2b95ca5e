use Rattle.std.proofs.Common.{◌≡◌, ◌++◌, ◌∙◌, ℕ, ap, arith}
use Rattle.bench_item.specs.declared.source.Source.{Source}
use Rattle.bench_show.specs.Queues.{queue_text, queues_to}
use Rattle.bench_show.proofs.CountLemmas.{none_put, one_put}
use Rattle.bench_show.proofs.QueueLemmas.{queues_more, queues_none}
use Rattle.bench_show.proofs.queues.put_each.Goals as goal

-- nothing was put
pub places-init : goal.places-init
places-init c = none_put _ _ (queues_none c.args.core.now c.args.sort)

-- one source more was
pub places-preserved : goal.places-preserved
places-preserved c =
    one_put _ _ _ _ _ _
    (c.in_ok-put_queue.ensures ∙ ap (λ (source : Source). c.places.out.items ++ queue_text c.args.core.now source) c.source_at.ensures)
    c.places.invariant (queues_more c.args.core.now c.args.sort c.places.place)

-- all were
pub returns : goal.returns
returns c =
    let all : c.places.place ≡ c.args.count = omega arith in
    c.places.invariant ∙ ap (λ (n : ℕ). c.args.out.now.items ++ queues_to c.args.core.now c.args.sort n) all
