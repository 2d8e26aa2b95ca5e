-- Which texts a desk of a bench can tell, and which of some it can't.
use Rattle.std.specs.Prelude.{◌≡◌, ◌&&◌, ℕ, Bool, true, false, not, List, Option, Some, None, take, slice_get}
use Rattle.std.specs.List.{list_all}
use Rattle.std.specs.Option.{option_map_or}
use Rattle.bench_item.specs.declared.step.Step.{Step}
use Rattle.bench_item.specs.declared.step.Step.TheVariants.{Told}
use Rattle.bench_item.specs.declared.step.StepFault.{StepFault}
use Rattle.bench_item.specs.declared.step.StepFault.TheVariants.{Unknown}
use Rattle.bench_spec.specs.Refusal.{refusal}
use Rattle.bench_spec.specs.Taken.{Run}
use Rattle.live_desk.specs.Texts.{told_step}

-- whether a step is one in which something is told
abbrev pub is_told : Step → Bool
is_told (Told number key event) = true
is_told step = false

-- whether a step is refused since there is nothing of that name
abbrev pub is_unknown : Option StepFault → Bool
is_unknown None = false
is_unknown (Some Unknown) = true
is_unknown (Some fault) = false

-- whether something is told in a step, and to what there is, or may be, in a bench
abbrev pub is_told_in : Run → Step → Bool
is_told_in run step = is_told step && not (is_unknown (refusal run.settings run.log run.paused step))

-- whether a desk of a bench can tell a text, by what it is in its first round
abbrev pub can_tell : Run → (desk : ℕ) → (words : List ℕ) → Bool
can_tell run desk words = option_map_or (is_told_in run) (told_step run.settings.node.laws desk words 1) false

-- the text at a place is the first that it can't tell
pub record IsFirstBad (run : Run) (desk : ℕ) (texts : List (List ℕ)) (place : ℕ) : Type 0 where
  pub before : list_all (can_tell run desk) (take place texts) ≡ true
  pub words : List ℕ
  pub there : slice_get texts place ≡ Some words
  pub bad : can_tell run desk words ≡ false
