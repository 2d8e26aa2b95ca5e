-- The timer of one more machine.
use Rattle.std.proofs.Common.{◌≡◌, ◌+◌, ◌++◌, ◌∙◌, ℕ, [], ap, refl, zero-add}
use Rattle.bench_spec.specs.Taken.{Run}
use Rattle.bench_show.specs.Timers.{timer_text, timers_to}
use Rattle.bench_show.proofs.CountLemmas.{texts_more}

pub timers_none : (run : Run) → timers_to run 0 ≡ []
unfolding timers_to
timers_none run = refl

pub timers_more : (run : Run) (n : ℕ) → timers_to run (n + 1) ≡ timers_to run n ++ timer_text run n
unfolding timers_to
timers_more run n = texts_more (timer_text run) 0 n ∙ ap (λ (machine : ℕ). timers_to run n ++ timer_text run machine) (zero-add n)
