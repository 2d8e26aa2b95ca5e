use Rattle.std.proofs.Common.{[], arith, refl}
use Rattle.std.proofs.lemmas.Bool.Decides.{nat_tests}
use Rattle.live_parts.proofs.due.pass_time.Goals as goal

pub returns-then-due_at-gt0-clause-due : goal.returns-then-due_at-gt0-clause-due
returns-then-due_at-gt0-clause-due c = λ is. (λ none. let e = c.due_at.ensures [] none in grind (arith, nat_tests, e, c.if-due_at-gt0.true), refl)
