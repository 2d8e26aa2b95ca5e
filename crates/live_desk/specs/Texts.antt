-- What a text of a desk tells.
use Rattle.std.specs.Prelude.{◌==◌, ◌&&◌, ◌++◌, ℕ, Bool, false, List, [], ◌∷◌, Option, Some, None}
use Rattle.std.specs.Prelude.{codes, decimal, slice_get, if◌then◌else◌}
use Rattle.std.specs.Option.{option_map_or}
use Rattle.std.specs.Str.{bytes_eq}
use Rattle.bench_item.specs.declared.step.Step.{Step}
use Rattle.script_text.specs.Scripts.{asked_of}
use Rattle.script_text.specs.declared.asked.ScriptStep.{ScriptStep}
use Rattle.script_text.specs.declared.asked.ScriptStep.TheVariants as asked
use Rattle.tab_law.specs.Books.{Laws}

-- whether a text begins with `#n`
abbrev pub begins_with_round : List ℕ → Bool
begins_with_round [] = false
begins_with_round (c ∷ []) = false
begins_with_round (c ∷ d ∷ rest) = (c == 35) && (d == 110)

-- a text in which `#n` is the number of the round
abbrev pub in_round : ℕ → List ℕ → List ℕ
in_round round [] = []
in_round round (c ∷ []) = c ∷ []
in_round round (c ∷ d ∷ rest) =
    if (c == 35) && (d == 110) then decimal round ++ in_round round rest else c ∷ in_round round (d ∷ rest)

-- the line of a script that a desk's text is in a round
abbrev pub line_of : (desk : ℕ) → (words : List ℕ) → (round : ℕ) → List ℕ
line_of desk words round = codes "told " ++ decimal desk ++ codes " " ++ in_round round words

-- the step that it asks for, if it is one
abbrev pub step_in : Option ScriptStep → Option Step
step_in None = None
step_in (Some (asked.Step step)) = Some step
step_in (Some (asked.Fired key generation)) = None

abbrev pub told_step : Laws → (desk : ℕ) → (words : List ℕ) → (round : ℕ) → Option Step
told_step laws desk words round = step_in (asked_of laws (line_of desk words round))

-- the kind of events at a place has the name Start
abbrev pub is_start : Laws → (kind : ℕ) → Bool
is_start laws kind = option_map_or (λ entry. bytes_eq entry.name (codes "Start")) (slice_get laws.kinds kind) false
