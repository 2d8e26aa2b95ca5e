-- Views of a list in which each item is seen with those before it.
use Rattle.std.specs.Prelude.{Bool, false, List, [], ◌∷◌, ◌++◌, ◌||◌, not, filter}

-- what each item gives after those before it, joined
abbrev pub flat_map_after : {X Y : Type 0} → (List X → X → List Y) → List X → List X → List Y
flat_map_after give past [] = []
flat_map_after give past (x ∷ xs) = give past x ++ flat_map_after give (past ++ x ∷ []) xs

-- whether an item passes the test after those before it
abbrev pub any_after : {X : Type 0} → (List X → X → Bool) → List X → List X → Bool
any_after test past [] = false
any_after test past (x ∷ xs) = test past x || any_after test (past ++ x ∷ []) xs

-- the items, each once, where it stands first
abbrev pub distinct : {X : Type 0} → (X → X → Bool) → List X → List X
distinct is_same [] = []
distinct is_same (x ∷ xs) = x ∷ filter (λ y. not (is_same x y)) (distinct is_same xs)
