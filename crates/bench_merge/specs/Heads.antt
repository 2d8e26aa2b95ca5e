-- What is next of each part, while parts are merged.
use Rattle.std.specs.Prelude.{◌≡◌, ◌≢◌, ◌<◌, ◌≤◌, ◌+◌, ◌^◌, ℕ, nat_le, nat_lt, Bool, false, List, [], ◌∷◌, ◌++◌}
use Rattle.std.specs.Prelude.{length, map, slice_index, take, Option, None, Some, if◌then◌else◌}
use Rattle.std.specs.List.{range_with_len}
use Rattle.std.specs.List.Sorted.{IsStrictlyIncreasing}
use Rattle.bench_merge.specs.declared.merging.Placed.{Placed}
use Rattle.bench_merge.specs.Order.{of_part, stamps_at}

-- it is the next of its part, by the places that are next
pub record IsHead (parts : List (List ℕ)) (heads : List ℕ) (t : Placed) : Type 0 where
  pub among : t.part < length parts
  pub place_is : t.place ≡ slice_index heads t.part
  pub within : t.place < length (stamps_at parts t.part)
  pub stamp_is : t.stamp ≡ slice_index (stamps_at parts t.part) t.place
  pub fits : t.place + 1 < 2 ^ 64

abbrev pub IsHeadOf : List (List ℕ) → List ℕ → ℕ → Placed → Type 0
IsHeadOf parts heads part t = IsHead parts heads t × (t.part ≡ part)

-- of the first parts none has a lesser one next
abbrev pub IsLeast : List (List ℕ) → List ℕ → ℕ → Placed → Type 0
IsLeast parts heads n t =
    (q : ℕ) → q < n → slice_index heads q < length (stamps_at parts q)
    → t.stamp ≤ slice_index (stamps_at parts q) (slice_index heads q)

-- the least of what is next in the first parts, or none where these are all taken
abbrev pub UpTo : List (List ℕ) → List ℕ → ℕ → Option Placed → Type 0
UpTo parts heads n None = (q : ℕ) → q < n → length (stamps_at parts q) ≤ slice_index heads q
UpTo parts heads n (Some t) = IsHead parts heads t × IsLeast parts heads n t

-- the one with the lesser stamp, the first of two that are the same
abbrev pub lesser : Option Placed → Option Placed → Option Placed
lesser None head = head
lesser (Some found) None = Some found
lesser (Some found) (Some head) = if nat_lt head.stamp found.stamp then Some head else Some found

-- whether a stamp is not above the last one
abbrev pub is_late : Option Placed → Placed → Bool
is_late None next = false
is_late (Some last) next = nat_le next.stamp last.stamp

-- the first stamps of a part, so many, stand in the order with their places
pub record IsTaken (parts : List (List ℕ)) (n : ℕ) (order : List Placed) (q : ℕ) : Type 0 where
  pub stamps : map (λ t. t.stamp) (of_part q order) ≡ take n (stamps_at parts q)
  pub places : map (λ t. t.place) (of_part q order) ≡ range_with_len 0 n
  pub within : n ≤ length (stamps_at parts q)

-- the one that was taken last: it stands last, its part goes on behind it, and no other has a lesser one next
pub record IsLast (parts : List (List ℕ)) (heads : List ℕ) (order : List Placed) (t : Placed) : Type 0 where
  pub before : List Placed
  pub order_is : order ≡ before ++ t ∷ []
  pub next_is : slice_index heads t.part ≡ t.place + 1
  pub within : t.place < length (stamps_at parts t.part)
  pub stamp_is : t.stamp ≡ slice_index (stamps_at parts t.part) t.place
  pub above : (q : ℕ) → q ≢ t.part → q < length parts → slice_index heads q < length (stamps_at parts q)
      → t.stamp ≤ slice_index (stamps_at parts q) (slice_index heads q)

abbrev pub IsTop : List (List ℕ) → List ℕ → List Placed → Option Placed → Type 0
IsTop parts heads order None = order ≡ []
IsTop parts heads order (Some t) = IsLast parts heads order t

-- parts are merged so far: of each part what stands before its next place is taken, and the order rises
pub record Merging (parts : List (List ℕ)) (heads : List ℕ) (order : List Placed) (last : Option Placed) : Type 0 where
  pub each : length heads ≡ length parts
  pub taken : (q : ℕ) → IsTaken parts (slice_index heads q) order q
  pub rising : IsStrictlyIncreasing (map (λ t. t.stamp) order)
  pub top : IsTop parts heads order last
