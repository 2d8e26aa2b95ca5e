-- A step that may be taken while shards are paused may be taken while none is.
use Rattle.std.proofs.Common.{◌≡◌, List, [], ◌∷◌, Bool, true, false, Option, Some, None, subst}
use Rattle.std.specs.Prelude.{find, option_map}
use Rattle.bench_item.specs.declared.entry.Entry.{Entry}
use Rattle.bench_item.specs.declared.step.Step.{Step}
use Rattle.bench_item.specs.declared.step.Step.TheVariants.{Joined, Dialled, Came, Lost, Told, Fired, Lift, Drop, Work}
use Rattle.bench_item.specs.declared.step.StepFault.{StepFault}
use Rattle.bench_item.specs.declared.step.StepFault.TheVariants.{Unknown, Paused, Nothing, Full}
use Rattle.bench_spec.specs.Items.{inbox}
use Rattle.bench_spec.specs.Refusal.{is_empty, is_log_full, is_paused, lacks_work_room, refusal}
use Rattle.bench_spec.specs.Settings.{Settings}
use Rattle.std.specs.Prelude.{nat_lt, not, ◌||◌}

abbrev first_fault : Bool → Bool → Bool → Bool → Option StepFault
first_fault unknown paused nothing full =
    option_map (λ (reason : Bool × StepFault). reason.1)
    (find (λ (reason : Bool × StepFault). reason.0)
    ((unknown, Unknown) ∷ (paused, Paused) ∷ (nothing, Nothing) ∷ (full, Full) ∷ []))

abbrev IsThere : Option StepFault → Type 0
IsThere None = ⊥
IsThere (Some fault) = Unit {0}

unpaused : (unknown paused nothing full : Bool) → first_fault unknown paused nothing full ≡ None
    → first_fault unknown false nothing full ≡ None
unpaused true paused nothing full none = absurd (subst IsThere none tt)
unpaused false true nothing full none = absurd (subst IsThere none tt)
unpaused false false nothing full none = none

pub refusal-unpaused : (settings : Settings) (log : List Entry) (paused : List Bool) (step : Step)
    → refusal settings log paused step ≡ None → refusal settings log [] step ≡ None
refusal-unpaused settings log paused Joined none = none
refusal-unpaused settings log paused (Dialled l) none = none
refusal-unpaused settings log paused (Came l p) none = none
refusal-unpaused settings log paused (Lost l) none = none
refusal-unpaused settings log paused (Told d k e) none = none
refusal-unpaused settings log paused (Fired m g) none = none
refusal-unpaused settings log paused (Lift s) none = none
refusal-unpaused settings log paused (Drop s) none = none
refusal-unpaused settings log paused (Work shard) none =
    unpaused (not (nat_lt shard settings.node.shards)) (is_paused paused shard)
    (is_empty (inbox settings.node log shard)) (is_log_full log || lacks_work_room settings log shard) none
