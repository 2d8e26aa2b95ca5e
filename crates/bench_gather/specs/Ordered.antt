-- The entries of parts in the order of their stamps.
use Rattle.std.specs.Prelude.{◌≡◌, ℕ, Bool, true, List, [], filter, flat_map, map, slice_index_or}
use Rattle.std.specs.List.{list_all}
use Rattle.bench_item.specs.declared.entry.Entry.{Entry}
use Rattle.bench_merge.specs.Order.{IsOrder}
use Rattle.bench_merge.specs.declared.merging.Placed.{Placed}
use Rattle.bench_parts.specs.Own.{is_of}
use Rattle.bench_parts.specs.Views.{stamped_at}
use Rattle.bench_spec.specs.Merged.{Kept, Stamped, entries_kept, stamp_of}

-- the stamps of each part
abbrev pub stamps_of : List (List Kept) → List (List ℕ)
stamps_of parts = map (map stamp_of) parts

-- the entry that stands where an order has a stamp, none where a look does
abbrev pub entries_at : List (List Kept) → Placed → List Entry
entries_at parts t = map (λ s. s.entry) (stamped_at parts t.part t.place)

-- the entries of parts in an order
abbrev pub entries_by : List (List Kept) → List Placed → List Entry
entries_by parts order = flat_map (entries_at parts) order

-- whether each of them stands in its own part
abbrev pub are_own : ℕ → List (List Kept) → List Placed → Bool
are_own shards parts order = list_all (λ t. list_all (is_of shards t.part) (entries_at parts t)) order

-- the same with their stamps
abbrev pub stamped_by : List (List Kept) → List Placed → List Stamped
stamped_by parts order = flat_map (λ t. stamped_at parts t.part t.place) order

-- of parts in an order, each entry in its own, what the order has of a part is that part,
-- and the log is what it has, without the stamps
pub record IsByParts (shards : ℕ) (parts : List (List Kept)) (order : List Placed) : Type 0 where
  pub each_part : (place : ℕ)
      → filter (λ s. is_of shards place s.entry) (stamped_by parts order)
      ≡ flat_map entries_kept (slice_index_or parts place [])
  pub entries : map (λ s. s.entry) (stamped_by parts order) ≡ entries_by parts order

abbrev pub ByParts : Type 0
ByParts =
    (shards : ℕ) (parts : List (List Kept)) (order : List Placed) → IsOrder (stamps_of parts) order
    → are_own shards parts order ≡ true → IsByParts shards parts order
