-- A directory is seen as the list of its names, each a list of octets, in the order of adding.
use Rattle.std.specs.Prelude.{◌≡◌, ℕ, List, map, position, slice_get, Option, Some}
use Rattle.std.specs.Str.{bytes_eq}
use Rattle.std.specs.Global.{Vec}

-- the octets of each stored name
abbrev pub octets_of : List (Vec ℕ) → List (List ℕ)
octets_of stored = map (λ name. name.items) stored

-- the place of a name, from 0: the first at which it stands
abbrev pub place_of : List (List ℕ) → List ℕ → Option ℕ
place_of names name = position (bytes_eq name) names

-- no name stands at two places
abbrev pub NoNameTwice : List (List ℕ) → Type 0
NoNameTwice names =
    (i j : ℕ) (name : List ℕ) → slice_get names i ≡ Some name → slice_get names j ≡ Some name → i ≡ j
