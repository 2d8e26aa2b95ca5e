-- Parts as lists that are written at one place.
use Rattle.std.proofs.Common.{◌≡◌, ℕ, List, [], ◌∷◌, Some, refl, sym, ◌∙◌, ap, suc, zero}
use Rattle.std.specs.List.{slice_get}
use Rattle.std.specs.Prelude.{map, slice_set}
use Rattle.bench_queue.specs.Outbox.{OutboxState, OutboxView}
use Rattle.bench_views.specs.Behind.{changed_at}
use Rattle.bench_views.proofs.Each.{some-same}

-- the views of a list of which one is written
pub views-set : (outs : List OutboxState) (place : ℕ) (old new : OutboxState) (f : OutboxView → OutboxView) → slice_get outs place ≡ Some old → new.view ≡ f old.view → map (λ o. o.view) (slice_set outs place new) ≡ changed_at place f (map (λ o. o.view) outs)
views-set [] place old new f there is = refl
views-set (o ∷ outs) zero old new f there is = ap (λ v. v ∷ map (λ x. x.view) outs) (is ∙ ap (λ x. f x.view) (sym (some-same o old there)))
views-set (o ∷ outs) (suc place) old new f there is = ap (λ vs. o.view ∷ vs) (views-set outs place old new f there is)

-- a change that is taken back
pub changed-back : {X : Type 0} (place : ℕ) (f g : X → X) (xs : List X) (x : X) → slice_get xs place ≡ Some x → g (f x) ≡ x → changed_at place g (changed_at place f xs) ≡ xs
changed-back place f g [] x there back = refl
changed-back zero f g (y ∷ xs) x there back = ap (λ z. z ∷ xs) (ap (λ z. g (f z)) (some-same y x there) ∙ back ∙ sym (some-same y x there))
changed-back (suc place) f g (y ∷ xs) x there back = ap (λ ys. y ∷ ys) (changed-back place f g xs x there back)
