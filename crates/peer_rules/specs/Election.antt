-- Who wins an election (RFC 6733 section 5.6.4).
use Rattle.std.specs.Prelude.{◌≡◌, ℕ, ◌<◌, ◌≤◌, List, length, map, slice_index}
use Rattle.std.specs.Char.{to_ascii_lowercase}

-- octets with their ASCII letters lowered
abbrev pub lowered : List ℕ → List ℕ
lowered octets = map to_ascii_lowercase octets

-- two lists agree in front of a place, at which one has an octet, and the other a lesser one or its end
pub record IsGreaterAt (place : ℕ) (one other : List ℕ) : Type 0 where
  pub agree : (i : ℕ) → i < place → slice_index one i ≡ slice_index other i
  pub within : place < length one
  pub reached : place ≤ length other
  pub greater : place < length other → slice_index other place < slice_index one place

-- one list of octets is greater than another
abbrev pub IsGreater : List ℕ → List ℕ → Type 0
IsGreater one other = (place : ℕ) × IsGreaterAt place one other
