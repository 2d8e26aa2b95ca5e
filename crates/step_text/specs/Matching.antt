-- A text that is compared with what would be printed.
use Rattle.std.specs.Prelude.{ℕ, ◌==◌, Bool, true, false, List, [], ◌∷◌, Option, Some, None, option_map, if◌then◌else◌}
use Rattle.step_text.specs.declared.matcher.Matcher.{Matcher}

-- what stands in a text behind that front; none where the text begins otherwise
abbrev pub behind_front : List ℕ → List ℕ → Option (List ℕ)
behind_front [] text = Some text
behind_front (c ∷ front) [] = None
behind_front (c ∷ front) (d ∷ text) = if c == d then behind_front front text else None

-- what is left of a text once these octets were compared; none once they differed
unfoldable pub without : List ℕ → Option (List ℕ) → Option (List ℕ)
without printed None = None
without printed (Some text) = behind_front printed text

-- what is left in a matcher
abbrev pub left_of : Matcher → Option (List ℕ)
left_of matcher = option_map (λ text. text.now) matcher.left

-- nothing differed, and nothing is left
abbrev pub is_done : Option (List ℕ) → Bool
is_done None = false
is_done (Some []) = true
is_done (Some (c ∷ text)) = false
