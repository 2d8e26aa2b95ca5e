-- The entries of a part that were stamped before, place by place.
use Rattle.std.specs.Prelude.{ℕ, List, flat_map, option_to_list, slice_get, take}
use Rattle.bench_item.specs.declared.entry.Entry.{Entry}
use Rattle.bench_spec.specs.Merged.{Kept, entries_before, entries_kept}

-- of all that was kept, of its first places, and of one place
abbrev pub before : ℕ → List Kept → List Entry
before stamp kept = entries_before stamp (flat_map entries_kept kept)

abbrev pub before_till : ℕ → ℕ → List Kept → List Entry
before_till stamp count kept = before stamp (take count kept)

abbrev pub before_at : ℕ → List Kept → ℕ → List Entry
before_at stamp kept place = before stamp (option_to_list (slice_get kept place))
