-- Which of two lists of octets is the greater one, as a function: `peer_rules.specs.Election.IsGreater` has it as a
-- relation.
use Rattle.std.specs.Prelude.{ℕ, ◌==◌, nat_lt, Bool, true, false, List, [], ◌∷◌, if◌then◌else◌}

-- the first place at which they differ decides; a list is greater than a front of it
abbrev pub is_greater : List ℕ → List ℕ → Bool
is_greater [] ys = false
is_greater (x ∷ xs) [] = true
is_greater (x ∷ xs) (y ∷ ys) = if x == y then is_greater xs ys else nat_lt y x
