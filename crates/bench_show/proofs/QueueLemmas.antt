-- What waits at one more source, and what is in a hand.
use Rattle.std.proofs.Common.{◌≡◌, ◌+◌, ◌++◌, ◌∙◌, ℕ, [], ap, refl, zero-add}
use Rattle.bench_spec.specs.Taken.{Run}
use Rattle.bench_show.specs.Queues.{queue_text, queues_to, source_at}
use Rattle.bench_show.specs.declared.queues.Sort.{Sort}
use Rattle.bench_show.proofs.CountLemmas.{texts_more}

pub queues_none : (run : Run) (sort : Sort) → queues_to run sort 0 ≡ []
unfolding queues_to
queues_none run sort = refl

pub queues_more : (run : Run) (sort : Sort) (n : ℕ) → queues_to run sort (n + 1) ≡ queues_to run sort n ++ queue_text run (source_at sort n)
unfolding queues_to
queues_more run sort n =
    texts_more (λ place. queue_text run (source_at sort place)) 0 n
    ∙ ap (λ (place : ℕ). queues_to run sort n ++ queue_text run (source_at sort place)) (zero-add n)
