-- What is printed of messages in a row.
use Rattle.std.specs.Prelude.{◌≡◌, ℕ, ◌+◌, ◌||◌, Bool, false, List, [], ◌∷◌, ◌++◌, length}

-- what is printed of a message by a printer: by its number, the octet of the input at which it begins, and its octets:
-- a text, and whether it tells a fault
abbrev pub Saying : Type 1
Saying = ℕ → ℕ → List ℕ → List ℕ → Bool → Type 0

-- the printed texts of messages, one behind the other, and whether one of them is a fault;
-- so many messages stand before them, of so many octets
abbrev pub PrintsAll : Saying → (count offset : ℕ) → List (List ℕ) → List ℕ → Bool → Type 0
PrintsAll says count offset [] lines refused = (lines ≡ []) × (refused ≡ false)
PrintsAll says count offset (message ∷ messages) lines refused =
    (text : List ℕ) × (fault : Bool) × (others : List ℕ) × (faults : Bool)
    × says (count + 1) offset message text fault
    × PrintsAll says (count + 1) (offset + length message) messages others faults
    × (lines ≡ text ++ others)
    × (refused ≡ (fault || faults))
