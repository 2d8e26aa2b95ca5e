-- The text of one more line.
use Rattle.std.proofs.Common.{◌≡◌, ◌+◌, ◌++◌, ◌∙◌, ℕ, [], ap, arith, refl}
use Rattle.bench_spec.specs.Taken.{Run}
use Rattle.bench_show.specs.Lines.{line_text, lines_to}
use Rattle.bench_show.proofs.CountLemmas.{texts_more}

pub no_lines : (run : Run) → lines_to run 0 ≡ []
unfolding lines_to
no_lines run = refl

pub lines_more : (run : Run) (n : ℕ) → lines_to run (n + 1) ≡ lines_to run n ++ line_text run (n + 1)
unfolding lines_to
lines_more run n =
    let next : 1 + n ≡ n + 1 = omega arith in
    texts_more (line_text run) 1 n ∙ ap (λ (line : ℕ). lines_to run n ++ line_text run line) next
