-- What is put into a room.
use Rattle.std.specs.Prelude.{◌≡◌, ℕ, List, ◌++◌, take}

-- a text stands at a place of a room and ends at another, and what stood before it is as it was
abbrev pub Puts : List ℕ → List ℕ → ℕ → ℕ → List ℕ → Type 0
Puts old new at end text = take end new ≡ take at old ++ text
