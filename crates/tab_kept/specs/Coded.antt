-- Numbers in as few octets as they need.
use Rattle.std.specs.Prelude.{ℕ, zero, suc, ◌==◌, List, [], ◌∷◌, flat_map, drop, slice_index, nat_lt, if◌then◌else◌}
use Rattle.std.specs.Int.{w16, w32, w64, to_le_bytes, from_le_bytes}

-- a number below 253 is an octet; 253, 254 and 255 stand before two, four and eight octets of one, the lowest first
abbrev pub code : ℕ → List ℕ
code n =
    if nat_lt n 253 then n ∷ []
    else (if nat_lt n 65536 then 253 ∷ to_le_bytes w16 n
    else (if nat_lt n 4294967296 then 254 ∷ to_le_bytes w32 n
    else 255 ∷ to_le_bytes w64 n))

-- numbers, one after the other
abbrev pub coded : List ℕ → List ℕ
coded numbers = flat_map code numbers

-- how many octets a number has, by its first
abbrev pub width : ℕ → ℕ
width head = if head == 253 then 3 else (if head == 254 then 5 else (if head == 255 then 9 else 1))

-- the first number of octets
abbrev pub first : List ℕ → ℕ
first s =
    if slice_index s 0 == 253 then from_le_bytes w16 (slice_index s 1 ∷ slice_index s 2 ∷ [])
    else (if slice_index s 0
    == 254 then from_le_bytes w32 (slice_index s 1 ∷ slice_index s 2 ∷ slice_index s 3 ∷ slice_index s 4 ∷ [])
    else (if slice_index s 0 == 255
    then from_le_bytes w64 (slice_index s 1 ∷ slice_index s 2
    ∷ slice_index s 3 ∷ slice_index s 4 ∷ slice_index s 5 ∷ slice_index s 6 ∷ slice_index s 7 ∷ slice_index s 8 ∷ [])
    else slice_index s 0))

-- the octets behind the first number
abbrev pub behind : List ℕ → List ℕ
behind s = drop (width (slice_index s 0)) s

-- so many numbers that octets are, 0 where there are none
abbrev pub decoded : ℕ → List ℕ → List ℕ
decoded zero s = []
decoded (suc n) s = first s ∷ decoded n (behind s)
