-- Lists of stamps, and the one order in which they rise.
use Rattle.std.specs.Prelude.{◌≡◌, ◌≢◌, ◌<◌, ◌≤◌, ◌+◌, ◌==◌, ℕ, List, [], filter, length}
use Rattle.std.specs.Prelude.{map, slice_index, slice_index_or}
use Rattle.std.specs.Prelude.{Option, None, Some, ◌⊎◌}
use Rattle.std.specs.List.{range_with_len}
use Rattle.std.specs.List.Sorted.{IsStrictlyIncreasing}
use Rattle.bench_merge.specs.declared.merging.Placed.{Placed}

-- the stamps of a part, none where there is no such part
abbrev pub stamps_at : List (List ℕ) → ℕ → List ℕ
stamps_at parts part = slice_index_or parts part []

-- what an order has of a part
abbrev pub of_part : ℕ → List Placed → List Placed
of_part part order = filter (λ t. t.part == part) order

-- The stamps of all parts in one order: they rise, and of each part it has all stamps, each once,
-- in the part's own order, with their places there.
pub record IsOrder (parts : List (List ℕ)) (order : List Placed) : Type 0 where
  pub rising : IsStrictlyIncreasing (map (λ t. t.stamp) order)
  pub stamps : (part : ℕ) → map (λ t. t.stamp) (of_part part order) ≡ stamps_at parts part
  pub places : (part : ℕ) → map (λ t. t.place) (of_part part order) ≡ range_with_len 0 (length (stamps_at parts part))

-- a part has a stamp that is not above the one before it
pub record Falls (parts : List (List ℕ)) : Type 0 where
  pub part : ℕ
  pub place : ℕ
  pub within : place + 1 < length (stamps_at parts part)
  pub falls : slice_index (stamps_at parts part) (place + 1) ≤ slice_index (stamps_at parts part) place

-- two parts have a stamp in common
pub record Shares (parts : List (List ℕ)) : Type 0 where
  pub part : ℕ
  pub other : ℕ
  pub apart : part ≢ other
  pub place : ℕ
  pub place_there : ℕ
  pub within : place < length (stamps_at parts part)
  pub within_there : place_there < length (stamps_at parts other)
  pub same : slice_index (stamps_at parts part) place ≡ slice_index (stamps_at parts other) place_there

-- what keeps parts from being put into one order
abbrev pub Clashes : List (List ℕ) → Type 0
Clashes parts = Falls parts ⊎ Shares parts

-- the one order, or none where something keeps the parts from it
abbrev pub Merges : List (List ℕ) → Option (List Placed) → Type 0
Merges parts (Some order) = IsOrder parts order
Merges parts None = Clashes parts

-- parts that have an order have nothing that keeps them from it
abbrev pub OrderOrClash : Type 0
OrderOrClash = (parts : List (List ℕ)) (order : List Placed) → IsOrder parts order → Clashes parts → ⊥
