-- One more entry with its stamp.
use Rattle.std.proofs.Common.{◌≡◌, ℕ, List, [], ◌∷◌, ◌++◌, map}
use Rattle.std.proofs.lemmas.List.{map-append}
use Rattle.bench_item.specs.declared.entry.Entry.{Entry}
use Rattle.bench_spec.specs.Merged.{Stamped}

-- the entries alone
pub entries-snoc : (entries : List Stamped) (stamp : ℕ) (e : Entry)
    → map (λ (s : Stamped). s.entry) (entries ++ record { stamp = stamp; entry = e } ∷ []) ≡ map (λ (s : Stamped). s.entry) entries ++ e ∷ []
entries-snoc entries stamp e = map-append (λ (s : Stamped). s.entry) entries (record { stamp = stamp; entry = e } ∷ [])
