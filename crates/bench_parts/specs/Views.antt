-- Parts of a bench as they are lent, and their entries in an order.
use Rattle.std.specs.Prelude.{ℕ, List, [], ◌∷◌, flat_map, map, option_to_list, slice_get, slice_index_or}
use Rattle.bench_item.specs.declared.entry.Entry.{Entry}
use Rattle.bench_spec.specs.Merged.{Did, Kept, Look, Saw, Stamped, entries_kept, stamp_of}
use Rattle.bench_parts.specs.declared.view.KeptLook.{KeptLook}
use Rattle.bench_parts.specs.declared.view.Lent.{Lent}
use Rattle.bench_parts.specs.declared.view.Lent.TheVariants.{Entries, Notes}
use Rattle.bench_parts.specs.declared.view.Note.{Note}
use Rattle.bench_parts.specs.declared.view.Note.TheVariants as notes

-- entries with their stamps
abbrev pub stamped_of : List ℕ → List Entry → List Stamped
stamped_of [] es = []
stamped_of (s ∷ ss) [] = []
stamped_of (s ∷ ss) (e ∷ es) = record { stamp = s; entry = e } ∷ stamped_of ss es

abbrev pub look_of : KeptLook → Look
look_of k = record { stamp = k.stamp; key = k.key; stands = k.stands; waiting = k.waiting; handled = k.handled }

abbrev pub kept_of : Note → Kept
kept_of (notes.Did stamp entry) = Did (record { stamp = stamp; entry = entry })
kept_of (notes.Saw look) = Saw (look_of look)

-- what a part has, in its order
abbrev pub kept_in : Lent → List Kept
kept_in (Entries stamps log) = map Did (stamped_of stamps.now log.now.entries)
kept_in (Notes kept) = map kept_of kept.now

-- its stamps, and its entries
abbrev pub stamps_in : Lent → List ℕ
stamps_in part = map stamp_of (kept_in part)

abbrev pub entries_in : Lent → List Stamped
entries_in part = flat_map entries_kept (kept_in part)

-- the entry at a place of what was kept: none for a look, and past the end
abbrev pub entries_there : List Kept → ℕ → List Entry
entries_there kept place = map (λ s. s.entry) (flat_map entries_kept (option_to_list (slice_get kept place)))

-- the same with its stamp, of one of these parts: none for a look, and past the end
abbrev pub stamped_at : List (List Kept) → ℕ → ℕ → List Stamped
stamped_at parts part place =
    flat_map entries_kept (option_to_list (slice_get (slice_index_or parts part []) place))
