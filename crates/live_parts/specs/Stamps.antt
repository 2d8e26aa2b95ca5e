-- Entries with the stamps that were drawn for them.
use Rattle.std.specs.Prelude.{ℕ, ◌-◌, List, [], ◌∷◌, ◌++◌, map}
use Rattle.bench_item.specs.declared.entry.Entry.{Entry}
use Rattle.bench_spec.specs.Merged.{Stamped}

-- entries with their stamps, and how many more are taken without memory
pub record StampedView : Type 0 where
  pub entries : List Stamped
  pub room : ℕ

-- the entries alone
abbrev pub entries_in : StampedView → List Entry
entries_in v = map (λ s. s.entry) v.entries

-- with one more
abbrev pub added : StampedView → ℕ → Entry → StampedView
added v stamp e = record { entries = v.entries ++ record { stamp = stamp; entry = e } ∷ []; room = v.room - 1 }
