-- The entries of a log, one after the other.
use Rattle.std.proofs.Common.{◌≡◌, ◌∙◌, ◌≤◌, ◌+◌, ◌∷◌, ℕ, List, [], None, Some, ap, drop, length, refl, suc, sym, zero, arith}
use Rattle.std.specs.Prelude.{slice_get}
use Rattle.bench_item.specs.declared.entry.Entry.{Entry}
use Rattle.live_stats.specs.Tallies.{Tally, noted, noted_all}

drop_at : {X : Type 0} (xs : List X) (i : ℕ) (x : X) → slice_get xs i ≡ Some x → drop i xs ≡ x ∷ drop (i + 1) xs
drop_at [] i x is = cc
drop_at (y ∷ ys) zero x is = let same : y ≡ x = cc in ap (λ z. z ∷ ys) same
drop_at (y ∷ ys) (suc i) x is = let next : suc i + 1 ≡ suc (i + 1) = omega arith in rw next (drop_at ys i x is)

drop_past : {X : Type 0} (xs : List X) (i : ℕ) → slice_get xs i ≡ None → drop i xs ≡ []
drop_past [] zero is = refl
drop_past [] (suc i) is = refl
drop_past (y ∷ ys) zero is = cc
drop_past (y ∷ ys) (suc i) is = drop_past ys i is

drop_end : {X : Type 0} (xs : List X) (i : ℕ) → length xs ≤ i → drop i xs ≡ []
drop_end [] zero le = refl
drop_end [] (suc i) le = refl
drop_end (y ∷ ys) zero le = absurd (omega arith)
drop_end (y ∷ ys) (suc i) le = drop_end ys i (omega arith)

past_more : {X : Type 0} (xs : List X) (i : ℕ) → slice_get xs i ≡ None → drop (i + 1) xs ≡ []
past_more [] i is = drop_end [] (i + 1) (omega arith)
past_more (y ∷ ys) zero is = cc
past_more (y ∷ ys) (suc i) is = let next : suc i + 1 ≡ suc (i + 1) = omega arith in rw next (past_more ys i is)

-- the next entry is counted
pub noted_next : (t t' : Tally) (moment : ℕ) (entries : List Entry) (at : ℕ) (entry : Entry) → slice_get entries at ≡ Some entry
    → t' ≡ noted t moment entry → noted_all t' moment (drop (at + 1) entries) ≡ noted_all t moment (drop at entries)
noted_next t t' moment entries at entry there is =
    ap (λ (u : Tally). noted_all u moment (drop (at + 1) entries)) is
    ∙ sym (ap (λ (es : List Entry). noted_all t moment es) (drop_at entries at entry there))

-- there is none
pub noted_none : (t : Tally) (moment : ℕ) (entries : List Entry) (at : ℕ) → slice_get entries at ≡ None
    → noted_all t moment (drop (at + 1) entries) ≡ noted_all t moment (drop at entries)
noted_none t moment entries at none =
    ap (λ (es : List Entry). noted_all t moment es) (past_more entries at none ∙ sym (drop_past entries at none))

-- none is left
pub noted_end : (t : Tally) (moment : ℕ) (entries : List Entry) (at : ℕ) → length entries ≤ at → noted_all t moment (drop at entries) ≡ t
noted_end t moment entries at le = ap (λ (es : List Entry). noted_all t moment es) (drop_end entries at le)
