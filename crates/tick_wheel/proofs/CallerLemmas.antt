-- What a caller cites of the armed timers.
use Rattle.std.proofs.Common.{◌≡◌, ℕ, Bool, true, false, cond, Option, refl, sym, ap, ◌∙◌, nat_eq, eqb-true}
use Rattle.std.specs.FinMap as fin
use Rattle.tick_wheel.specs.declared.timer.Armed.{Armed}
use Rattle.tick_wheel.specs.Timers.{ByOwner, with_timer}
use Rattle.tick_wheel.proofs.PlaceLemmas.{same_armed}
pub use Rattle.tick_wheel.proofs.PlaceLemmas.{get-with_timer}

-- an owner that gets back the timer that it had undoes the change
pub with_timer-back : (armed : ByOwner) (k : ℕ) (timer : Option Armed)
    → with_timer (with_timer armed k timer) k (fin.get armed k) ≡ armed
with_timer-back armed k timer =
    same_armed (with_timer (with_timer armed k timer) k (fin.get armed k)) armed
    (λ q. get-with_timer (with_timer armed k timer) k (fin.get armed k) q
    ∙ ap (cond (nat_eq q k) (fin.get armed k)) (get-with_timer armed k timer q)
    ∙ at q (nat_eq q k) refl)
  where
    at : (q : ℕ) (b : Bool) → nat_eq q k ≡ b
        → cond b (fin.get armed k) (cond b timer (fin.get armed q)) ≡ fin.get armed q
    at q true same = ap (fin.get armed) (sym (eqb-true q k same))
    at q false differ = refl
