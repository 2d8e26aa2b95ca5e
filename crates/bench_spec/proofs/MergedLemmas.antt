-- The parts of two shards and two desks are merged as that log.
use Rattle.std.proofs.Common.{◌≡◌, ◌≢◌, ◌<◌, ℕ, zero, suc, ◌+◌, List, [], ◌∷◌, ◌++◌, Bool, true, false, refl, get_or}
use Rattle.std.proofs.Common.{length, arith}
use Rattle.std.specs.Prelude.{◌==◌, ◌&&◌, not, nat_eq, nat_lt, All, AllPairs, filter, map, slice_index}
use Rattle.std.specs.List.{AllByRecursion, IsDistinct, list_all, range_with_len}
use Rattle.std.specs.List.Sorted.{IsStrictlyIncreasing}
use Rattle.std.proofs.lemmas.Bool.{false≢true, ltb-true}
use Rattle.std.proofs.lemmas.Bool.Decides.{Decides-eqb, nat_tests}
use Rattle.std.proofs.lemmas.Map.Made.{AllPairs-from_IsDistinct}
use Rattle.bench_item.specs.declared.source.Source.TheVariants.{Desk}
use Rattle.bench_item.specs.declared.key.Role.TheVariants.{Client}
use Rattle.bench_item.specs.Keys.{key_of}
use Rattle.bench_spec.specs.ChargeLog.{facts_told, log, of_x, of_y, settings}
use Rattle.bench_spec.specs.Items.{hand, outbox}
use Rattle.bench_spec.specs.Merged.{AreTells, IsMerged, IsRightAt, Look, OfClock, OfDesk, OfLines, OfShard, Part}
use Rattle.bench_spec.specs.Merged.{desk_kept, entries_of, is_same_part, look_stamps, looks_of, part_of, stamp_of}
use Rattle.bench_spec.specs.MergedLog.{look_0, look_1, parts, stamped}
use Rattle.bench_spec.proofs.PermitLemmas.{of_range}
use Rattle.bench_spec.proofs.RunLemmas.{both_true}

-- numbers that rise, and numbers that differ, by tests
rises : (xs : List ℕ) (n : ℕ) → length xs ≡ suc n
    → list_all (λ k. nat_lt (slice_index xs k) (slice_index xs (k + 1))) (range_with_len 0 n) ≡ true
    → IsStrictlyIncreasing xs
rises xs n long all =
    λ k within. ltb-true (slice_index xs k) (slice_index xs (k + 1))
    (of_range (λ j. nat_lt (slice_index xs j) (slice_index xs (j + 1))) n k all (omega (arith, within, long)))

abbrev differ : List ℕ → Bool
differ [] = true
differ (x ∷ xs) = list_all (λ y. not (x == y)) xs && differ xs

not_true : (b : Bool) → not b ≡ true → b ≡ false
not_true true h = absurd (false≢true h)
not_true false h = refl

each_differs : (x : ℕ) (ys : List ℕ) → list_all (λ y. not (x == y)) ys ≡ true
    → AllByRecursion (λ y. (x == y) ≡ false) ys
each_differs x [] all = tt
each_differs x (y ∷ ys) all =
    let parts = both_true (not (x == y)) (list_all (λ z. not (x == z)) ys) all in
    (not_true (x == y) parts.0, each_differs x ys parts.1)

distinct_by : (xs : List ℕ) → differ xs ≡ true → IsDistinct nat_eq xs
unfolding IsDistinct
distinct_by [] all = tt
distinct_by (x ∷ xs) all =
    let parts = both_true (list_all (λ y. not (x == y)) xs) (differ xs) all in
    (each_differs x xs parts.0, distinct_by xs parts.1)

others : AllPairs (λ one other. one ≢ other) (map (λ s. s.stamp) stamped ++ look_stamps parts)
others =
    AllPairs-from_IsDistinct Decides-eqb (map (λ s. s.stamp) stamped ++ look_stamps parts)
    (distinct_by (map (λ s. s.stamp) stamped ++ look_stamps parts) refl)

rising : IsStrictlyIncreasing (map (λ s. s.stamp) stamped)
rising = rises (map (λ s. s.stamp) stamped) 19 refl refl

-- a desk behind the two
no_desk : (d : ℕ) → ((suc (suc d) == 0) ≡ false) × ((suc (suc d) == 1) ≡ false) × ((0 == suc (suc d)) ≡ false)
    × ((1 == suc (suc d)) ≡ false)
no_desk d = (grind (arith, nat_tests), grind (arith, nat_tests), grind (arith, nat_tests), grind (arith, nat_tests))

each_part : (part : Part)
    → filter (λ s. is_same_part part (part_of settings.node.shards s.entry)) stamped ≡ entries_of parts part
each_part (OfShard shard) = refl
each_part OfLines = refl
each_part OfClock = refl
each_part (OfDesk zero) = refl
each_part (OfDesk (suc zero)) = refl
each_part (OfDesk (suc (suc d))) = rw ((no_desk d).0, (no_desk d).1) refl

desks_rising : (desk : ℕ) → IsStrictlyIncreasing (map stamp_of (desk_kept parts desk))
desks_rising zero = rises (map stamp_of (desk_kept parts 0)) 2 refl refl
desks_rising (suc zero) = rises (map stamp_of (desk_kept parts 1)) 2 refl refl
desks_rising (suc (suc d)) = λ k within. absurd (omega (arith, within))

desks_tell : (desk : ℕ) → AreTells desk (map (λ s. s.entry) (entries_of parts (OfDesk desk)))
desks_tell zero =
    record { told = (key_of Client of_x.name, record { kind = 0; facts = facts_told of_x }) ∷ []; steps = refl }
desks_tell (suc zero) =
    record { told = (key_of Client of_y.name, record { kind = 0; facts = facts_told of_y }) ∷ []; steps = refl }
desks_tell (suc (suc d)) = record { told = []; steps = refl }

desks_done : (desk : ℕ) → (outbox settings log (Desk desk) ≡ []) × (hand log (Desk desk) ≡ [])
desks_done zero = (refl, refl)
desks_done (suc zero) = (refl, refl)
desks_done (suc (suc d)) =
    (rw ((no_desk d).0, (no_desk d).1, (no_desk d).2, (no_desk d).3) refl, rw ((no_desk d).0, (no_desk d).1) refl)

one_look : (P : Look → Type 0) (l : Look) → P l → All P (l ∷ [])
one_look P l right = first
  where
    first : (k : ℕ) (d : Look) → k < 1 → P (get_or (l ∷ []) k d)
    first zero d within = right
    first (suc k) d within = absurd (omega (arith, within))

looks_right : (desk : ℕ) → All (IsRightAt settings parts desk) (looks_of parts desk)
looks_right zero =
    one_look (IsRightAt settings parts 0) look_0 (record { told = refl; handled = refl; waiting = refl; state = refl })
looks_right (suc zero) =
    one_look (IsRightAt settings parts 1) look_1 (record { told = refl; handled = refl; waiting = refl; state = refl })
looks_right (suc (suc d)) = λ k l within. absurd (omega (arith, within))

pub is_merged : IsMerged settings parts log
is_merged = record {
  stamped = stamped;
  entries = refl;
  rising = rising;
  each_part = each_part;
  others = others;
  desks_rising = desks_rising;
  fed = refl;
  pages = λ page. refl;
  few_desks = omega arith;
  desks_tell = desks_tell;
  desks_done = desks_done;
  looks_right = looks_right;
}
