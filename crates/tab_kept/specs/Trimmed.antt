-- How much room numbers take.
use Rattle.std.specs.Prelude.{ℕ, ◌==◌, List, [], ◌∷◌, length, if◌then◌else◌}
use Rattle.tab_kept.specs.Coded.{coded}

-- a number in front of others: a zero in front of none is left out
abbrev pub before : ℕ → List ℕ → List ℕ
before n [] = if n == 0 then [] else n ∷ []
before n (m ∷ ms) = n ∷ m ∷ ms

-- numbers without the zeros at their end
abbrev pub trimmed : List ℕ → List ℕ
trimmed [] = []
trimmed (n ∷ ns) = before n (trimmed ns)

-- so many octets numbers take: up to 32 stand with what they are of, more in memory of their own
unfoldable pub octets_for : List ℕ → ℕ
octets_for numbers = length (coded (trimmed numbers))
