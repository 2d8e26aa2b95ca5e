-- What can be dropped has a source.
use Rattle.std.proofs.Common.{◌≡◌, ◌∷◌, ◌||◌, Bool, true, false, List, [], None, Option, not, refl}
use Rattle.std.specs.Prelude.{find, option_map}
use Rattle.bench_item.specs.declared.entry.Entry.{Entry}
use Rattle.bench_item.specs.declared.source.Source.{Source}
use Rattle.bench_item.specs.declared.step.Step.TheVariants.{Drop}
use Rattle.bench_item.specs.declared.step.StepFault.{StepFault}
use Rattle.bench_item.specs.declared.step.StepFault.TheVariants.{Full, Nothing, Unknown}
use Rattle.bench_spec.specs.Items.{hand}
use Rattle.bench_spec.specs.Refusal.{has_no_room, is_empty, is_log_full, is_source, refusal}
use Rattle.bench_spec.specs.Settings.{Settings}

-- the first of the reasons of a drop
abbrev first_of : (there empty full : Bool) → Option StepFault
first_of there empty full = option_map (λ (r : Bool × StepFault). r.1) (find (λ (r : Bool × StepFault). r.0) ((not there, Unknown) ∷ (empty, Nothing) ∷ (full, Full) ∷ []))

is_there : (there empty full : Bool) → first_of there empty full ≡ None → there ≡ true
is_there true empty full could = refl
is_there false empty full could = absurd cc

-- a drop that is not refused is of a source that there is
pub dropped_source : (settings : Settings) (log : List Entry) (paused : List Bool) (source : Source)
    → refusal settings log paused (Drop source) ≡ None → is_source settings log source ≡ true
dropped_source settings log paused source could =
    is_there (is_source settings log source) (is_empty (hand log source)) (is_log_full log || has_no_room settings log (hand log source)) could
