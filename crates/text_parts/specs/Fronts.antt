-- The first values of a list.
use Rattle.std.specs.Prelude.{ℕ, ◌≡◌, ◌≤◌, nat_lt, List, length, take}
use Rattle.text_parts.specs.declared.front.Front.{Front}

-- the values that are kept of a list
abbrev pub values_in : {T : Type 0} {N : ℕ} → Front T N → List T
values_in front = take front.len front.values

-- of a list the first values are kept, and whether it has more
pub record IsFront {T : Type 0} {N : ℕ} (list : List T) (kept : Front T N) : Type 0 where
  pub values : values_in kept ≡ take N list
  pub more : kept.more ≡ nat_lt N (length list)
  pub within : kept.len ≤ N
