-- Counters.
use Rattle.std.specs.Prelude.{ℕ, ◌+◌, ◌-◌, ◌^◌, List, min, slice_index, slice_set}

-- one more; 2^64 - 1 stays
abbrev pub more : ℕ → ℕ
more count = min (count + 1) (2 ^ 64 - 1)

-- one more at a place
abbrev pub counted_at : List ℕ → ℕ → List ℕ
counted_at counts place = slice_set counts place (more (slice_index counts place))
