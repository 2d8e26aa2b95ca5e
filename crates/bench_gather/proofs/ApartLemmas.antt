-- Parts that are merged to a log give it: their stamps don't clash, and no other log is in their order.
use Rattle.std.proofs.Common.{◌≡◌, ◌∙◌, ◌+◌, ◌-◌, ◌<◌, ◌≤◌, ℕ, zero, suc, List, [], ◌∷◌, ◌++◌, Bool, true}
use Rattle.std.proofs.Common.{length, map, take, refl, ap, sym, subst, arith, inl, inr}
use Rattle.std.specs.Prelude.{◌⊎◌, filter, flat_map, nat_lt, option_to_list, slice_get, slice_index}
use Rattle.std.specs.Prelude.{slice_index_or}
use Rattle.std.specs.List.{list_all}
use Rattle.std.specs.List.Sorted.{IsStrictlyIncreasing}
use Rattle.std.proofs.lemmas.Bool.{and_from, cases_Bool, cases_eq, cases_lt, cond-true, cond-false, false≢true, lt-ltb}
use Rattle.std.proofs.lemmas.List.{append-nil, get_or-drop, get_or_past, take_all}
use Rattle.std.proofs.lemmas.List.Concat.{flat_map_single}
use Rattle.std.proofs.lemmas.List.Folds.{list_all-append, list_all-map}
use Rattle.bench_item.specs.declared.entry.Entry.{Entry}
use Rattle.bench_looks.specs.Parts.{stamped_in}
use Rattle.bench_merge.specs.Order.{Clashes, IsOrder, stamps_at}
use Rattle.bench_merge.specs.declared.merging.Placed.{Placed}
use Rattle.bench_parts.specs.Own.{is_of, part_at}
use Rattle.bench_parts.specs.Views.{stamped_at}
use Rattle.bench_spec.specs.Merged.{Did, IsMerged, Kept, OfClock, OfDesk, OfLines, OfShard, Part, Saw, Stamped}
use Rattle.bench_spec.specs.Merged.{entries_kept, entries_of, is_same_part, look_stamps, part_of, stamp_of}
use Rattle.bench_spec.specs.Settings.{Settings}
use Rattle.bench_spec.proofs.RunLemmas.{both_true}
use Rattle.bench_gather.specs.Checks.{is_did, looks_stand}
use Rattle.bench_gather.specs.Given.{Handed, parts_of}
use Rattle.bench_gather.specs.Ordered.{are_own, entries_at, entries_by, stamped_by, stamps_of}
use Rattle.bench_gather.proofs.LogLemmas.{entries-alone, one-part, stamps_at-map}
use Rattle.bench_gather.proofs.MergeLemmas.{all-looks, at_least-filter, clock-at, desk-at, lines-at, looked}
use Rattle.bench_gather.proofs.MergeLemmas.{order-rises}
use Rattle.bench_gather.proofs.MergeLemmas.{part-itself, parts-in_order, shard-at, times-kept}
use Rattle.bench_gather.proofs.TimesLemmas.{AtLeast, at_least-rising, once-apart, rising-at_least, times, times-append}
use Rattle.bench_gather.proofs.TimesLemmas.{times-there, total, total-add, total-list, total-parts, total-same}
use Rattle.bench_gather.proofs.TimesLemmas.{total-two}

-- what a merged log has of the part at a place
merged-by : (settings : Settings) (handed : Handed) (log : List Entry) (part : Part) (place : ℕ)
    → part_at settings.node.shards place ≡ part
    → (m : IsMerged settings (parts_of settings.node.shards handed) log)
    → entries_of (parts_of settings.node.shards handed) part ≡ stamped_in handed.kept place
    → filter (λ s. is_of settings.node.shards place s.entry) m.stamped ≡ stamped_in handed.kept place
merged-by settings handed log part place at m is =
    subst
    (λ p. filter (λ (s : Stamped). is_same_part p (part_of settings.node.shards s.entry)) m.stamped
    ≡ stamped_in handed.kept place)
    (sym at) (m.each_part part ∙ is)

desk-entries : (shards : ℕ) (handed : Handed) (desk : ℕ)
    → entries_of (parts_of shards handed) (OfDesk desk) ≡ stamped_in handed.kept (shards + 2 + desk)
desk-entries shards handed desk = ap (flat_map entries_kept) (get_or-drop (shards + 2) handed.kept desk [])

merged-place : (settings : Settings) (handed : Handed) (log : List Entry)
    → (m : IsMerged settings (parts_of settings.node.shards handed) log) (place : ℕ)
    → filter (λ s. is_of settings.node.shards place s.entry) m.stamped ≡ stamped_in handed.kept place
merged-place settings handed log m place =
    let n = settings.node.shards in
    elim (cases_lt place n) [
      | inl l ↦
          merged-by settings handed log (OfShard place) place (shard-at n place l) m
          (cond-true (nat_lt place n) (stamped_in handed.kept place) [] (lt-ltb place n l))
      | inr past ↦
          elim (cases_eq place n) [
            | inl e ↦
                merged-by settings handed log OfLines place (ap (part_at n) e ∙ lines-at n) m
                (ap (stamped_in handed.kept) (sym e))
            | inr apart ↦
                elim (cases_eq place (n + 1)) [
                  | inl e ↦
                      merged-by settings handed log OfClock place (ap (part_at n) e ∙ clock-at n) m
                      (ap (stamped_in handed.kept) (sym e))
                  | inr behind ↦
                      let desk = place - n - 2 in
                      let far : n + 2 + desk ≡ place = omega (arith, past, apart, behind) in
                      merged-by settings handed log (OfDesk desk) place
                      (ap (part_at n) (sym far) ∙ desk-at n desk) m
                      (desk-entries n handed desk ∙ ap (stamped_in handed.kept) far)
                ]
          ]
    ]

-- each entry stands in its own part
filter-all : (p : Stamped → Bool) (xs : List Stamped) → list_all p (filter p xs) ≡ true
filter-all p [] = refl
filter-all p (x ∷ xs) =
    elim (cases_Bool (p x)) [
      | inl is ↦
          ap (list_all p) (cond-true (p x) (x ∷ filter p xs) (filter p xs) is)
          ∙ and_from (p x) (list_all p (filter p xs)) is (filter-all p xs)
      | inr other ↦ ap (list_all p) (cond-false (p x) (x ∷ filter p xs) (filter p xs) other) ∙ filter-all p xs
    ]

own-entries : (p : Stamped → Bool) (ks : List Kept) (k : ℕ) → list_all p (flat_map entries_kept ks) ≡ true
    → list_all p (flat_map entries_kept (option_to_list (slice_get ks k))) ≡ true
own-entries p [] k all = refl
own-entries p (x ∷ ks) zero all =
    let both = both_true (list_all p (entries_kept x)) (list_all p (flat_map entries_kept ks))
    (sym (list_all-append p (entries_kept x) (flat_map entries_kept ks)) ∙ all) in
    ap (list_all p) (append-nil (entries_kept x)) ∙ both.0
own-entries p (x ∷ ks) (suc k) all =
    let both = both_true (list_all p (entries_kept x)) (list_all p (flat_map entries_kept ks))
    (sym (list_all-append p (entries_kept x) (flat_map entries_kept ks)) ∙ all) in
    own-entries p ks k both.1

pub merged-own : (settings : Settings) (handed : Handed) (log : List Entry)
    → IsMerged settings (parts_of settings.node.shards handed) log → (order : List Placed)
    → are_own settings.node.shards handed.kept order ≡ true
merged-own settings handed log m [] = refl
merged-own settings handed log m (t ∷ rest) =
    let n = settings.node.shards in
    let p = λ (s : Stamped). is_of n t.part s.entry in
    let all : list_all p (stamped_in handed.kept t.part) ≡ true =
    ap (list_all p) (sym (merged-place settings handed log m t.part)) ∙ filter-all p m.stamped in
    and_from (list_all (is_of n t.part) (entries_at handed.kept t)) (are_own n handed.kept rest)
    (list_all-map (is_of n t.part) (λ (s : Stamped). s.entry) (stamped_at handed.kept t.part t.place)
    ∙ own-entries p (slice_index_or handed.kept t.part []) t.place all)
    (merged-own settings handed log m rest)

-- two lists that rise and have the same of each part are one
lower : (p : Stamped → Bool) (x y : Stamped) (xs ys : List Stamped) → x ∷ xs ≡ filter p (y ∷ ys)
    → AtLeast (y.stamp + 1) (map (λ s. s.stamp) ys) → (x ≡ y) ⊎ (y.stamp + 1 ≤ x.stamp)
lower p x y xs ys is rises =
    elim (cases_Bool (p y)) [
      | inl here ↦
          let e = is ∙ cond-true (p y) (y ∷ filter p ys) (filter p ys) here in
          let same : x ≡ y = cc in
          inl same
      | inr other ↦
          let e = is ∙ cond-false (p y) (y ∷ filter p ys) (filter p ys) other in
          let kept = at_least-filter (λ (s : Stamped). s.stamp) p (y.stamp + 1) ys rises in
          let first = subst (λ zs. AtLeast (y.stamp + 1) (map (λ (s : Stamped). s.stamp) zs)) (sym e) kept in
          inr first.0
    ]

abbrev is_in : ℕ → Part → Stamped → Bool
is_in shards part s = is_same_part part (part_of shards s.entry)

first-of : (shards : ℕ) (x : Stamped) (xs : List Stamped)
    → filter (is_in shards (part_of shards x.entry)) (x ∷ xs)
    ≡ x ∷ filter (is_in shards (part_of shards x.entry)) xs
first-of shards x xs =
    let p = is_in shards (part_of shards x.entry) in
    cond-true (p x) (x ∷ filter p xs) (filter p xs) (part-itself (part_of shards x.entry))

heads : (shards : ℕ) (x y : Stamped) (xs ys : List Stamped) → AtLeast (x.stamp + 1) (map (λ s. s.stamp) xs)
    → AtLeast (y.stamp + 1) (map (λ s. s.stamp) ys)
    → ((part : Part) → filter (is_in shards part) (x ∷ xs) ≡ filter (is_in shards part) (y ∷ ys)) → x ≡ y
heads shards x y xs ys a b same =
    let up = lower (is_in shards (part_of shards x.entry)) x y (filter (is_in shards (part_of shards x.entry)) xs) ys
    (sym (first-of shards x xs) ∙ same (part_of shards x.entry)) b in
    let down = lower (is_in shards (part_of shards y.entry)) y x (filter (is_in shards (part_of shards y.entry)) ys) xs
    (sym (first-of shards y ys) ∙ sym (same (part_of shards y.entry))) a in
    elim up [
      | inl e ↦ e
      | inr less ↦ elim down [ inl e ↦ sym e | inr more ↦ absurd (omega (arith, less, more)) ]
    ]

tails : (p : Stamped → Bool) (x y : Stamped) (xs ys : List Stamped) → x ≡ y → filter p (x ∷ xs) ≡ filter p (y ∷ ys)
    → filter p xs ≡ filter p ys
tails p x y xs ys e same =
    let there = ap p e in
    elim (cases_Bool (p x)) [
      | inl here ↦
          let all =
          sym (cond-true (p x) (x ∷ filter p xs) (filter p xs) here) ∙ same
          ∙ cond-true (p y) (y ∷ filter p ys) (filter p ys) (sym there ∙ here) in
          let rest : filter p xs ≡ filter p ys = cc in
          rest
      | inr other ↦
          sym (cond-false (p x) (x ∷ filter p xs) (filter p xs) other) ∙ same
          ∙ cond-false (p y) (y ∷ filter p ys) (filter p ys) (sym there ∙ other)
    ]

only : (shards low : ℕ) (xs ys : List Stamped) → AtLeast low (map (λ s. s.stamp) xs)
    → AtLeast low (map (λ s. s.stamp) ys)
    → ((part : Part) → filter (is_in shards part) xs ≡ filter (is_in shards part) ys) → xs ≡ ys
only shards low [] [] a b same = refl
only shards low (x ∷ xs) [] a b same =
    absurd (let e = sym (first-of shards x xs) ∙ same (part_of shards x.entry) in cc)
only shards low [] (y ∷ ys) a b same =
    absurd (let e = sym (first-of shards y ys) ∙ sym (same (part_of shards y.entry)) in cc)
only shards low (x ∷ xs) (y ∷ ys) a b same =
    let e = heads shards x y xs ys a.1 b.1 same in
    let rest = only shards (x.stamp + 1) xs ys a.1
    (subst (λ (s : Stamped). AtLeast (s.stamp + 1) (map (λ (z : Stamped). z.stamp) ys)) (sym e) b.1)
    (λ part. tails (is_in shards part) x y xs ys e (same part)) in
    ap (λ z. z ∷ xs) e ∙ ap (λ zs. y ∷ zs) rest

pub merged-only : (settings : Settings) (handed : Handed) (log : List Entry)
    → IsMerged settings (parts_of settings.node.shards handed) log → (order : List Placed)
    → IsOrder (stamps_of handed.kept) order → log ≡ entries_by handed.kept order
merged-only settings handed log m order o =
    let n = settings.node.shards in
    let own = merged-own settings handed log m order in
    let same = only n 0 m.stamped (stamped_by handed.kept order)
    (at_least-rising 0 (map (λ (s : Stamped). s.stamp) m.stamped) (λ some. omega arith) m.rising)
    (order-rises handed.kept order o)
    (λ part. m.each_part part ∙ sym (parts-in_order n handed order o own part)) in
    sym m.entries ∙ ap (map (λ (s : Stamped). s.entry)) same ∙ entries-alone handed.kept order

-- no part falls
did-stamps : (ks : List Kept) → list_all is_did ks ≡ true
    → map stamp_of ks ≡ map (λ s. s.stamp) (flat_map entries_kept ks)
did-stamps [] all = refl
did-stamps (Did s ∷ ks) all = ap (λ xs. s.stamp ∷ xs) (did-stamps ks all)
did-stamps (Saw l ∷ ks) all = absurd (false≢true all)

did-at : (n : ℕ) (parts : List (List Kept)) (place : ℕ) → list_all (λ kept. list_all is_did kept) (take n parts) ≡ true
    → place < n → list_all is_did (slice_index_or parts place []) ≡ true
did-at zero parts place all l = absurd (omega (arith, l))
did-at (suc n) [] place all l = refl
did-at (suc n) (ks ∷ parts) zero all l =
    (both_true (list_all is_did ks) (list_all (λ kept. list_all is_did kept) (take n parts)) all).0
did-at (suc n) (ks ∷ parts) (suc place) all l =
    did-at n parts place
    (both_true (list_all is_did ks) (list_all (λ kept. list_all is_did kept) (take n parts)) all).1 (omega (arith, l))

part-rises : (settings : Settings) (handed : Handed) (log : List Entry)
    → looks_stand settings.node.shards handed.kept ≡ true
    → IsMerged settings (parts_of settings.node.shards handed) log → (place : ℕ)
    → IsStrictlyIncreasing (map stamp_of (slice_index_or handed.kept place []))
part-rises settings handed log stand m place =
    let n = settings.node.shards in
    let ks = slice_index_or handed.kept place [] in
    elim (cases_lt place (n + 2)) [
      | inl l ↦
          let p = λ (s : Stamped). is_of n place s.entry in
          let rises = at_least-filter (λ (s : Stamped). s.stamp) p 0 m.stamped
          (at_least-rising 0 (map (λ (s : Stamped). s.stamp) m.stamped) (λ some. omega arith) m.rising) in
          let same : map (λ (s : Stamped). s.stamp) (filter p m.stamped) ≡ map stamp_of ks =
          ap (map (λ (s : Stamped). s.stamp)) (merged-place settings handed log m place)
          ∙ sym (did-stamps ks (did-at (n + 2) handed.kept place stand l)) in
          rising-at_least 0 (map stamp_of ks) (subst (AtLeast 0) same rises)
      | inr past ↦
          let desk = place - (n + 2) in
          let far : n + 2 + desk ≡ place = omega (arith, past) in
          subst (λ kept. IsStrictlyIncreasing (map stamp_of kept))
          (get_or-drop (n + 2) handed.kept desk [] ∙ ap (λ q. slice_index_or handed.kept q []) far)
          (m.desks_rising desk)
    ]

there-within : (parts : List (List Kept)) (place k : ℕ) → k < length (stamps_at (stamps_of parts) place)
    → place < length parts
there-within parts place k l =
    elim (cases_lt place (length parts)) [
      | inl within ↦ within
      | inr past ↦
          absurd
          (let none = ap length (stamps_at-map parts place ∙ ap (map stamp_of) (get_or_past parts place [] past)) in
          omega (arith, l, none))
    ]

stands-once : (parts : List (List Kept)) (place k : ℕ) → k < length (stamps_at (stamps_of parts) place) → (x : ℕ)
    → slice_index (stamps_at (stamps_of parts) place) k ≡ x
    → 1 ≤ times x (map stamp_of (slice_index_or parts place []))
stands-once parts place k l x is =
    subst (λ ys. 1 ≤ times x ys) (stamps_at-map parts place)
    (subst (λ y. 1 ≤ times y (stamps_at (stamps_of parts) place)) is
    (times-there (stamps_at (stamps_of parts) place) k l))

-- of all parts together a stamp is there once
all-once : (settings : Settings) (handed : Handed) (log : List Entry)
    → looks_stand settings.node.shards handed.kept ≡ true
    → IsMerged settings (parts_of settings.node.shards handed) log → (x : ℕ)
    → total (λ q. times x (map stamp_of (slice_index_or handed.kept q []))) (length handed.kept) ≤ 1
all-once settings handed log stand m x =
    let n = settings.node.shards in
    let count = length handed.kept in
    let stamps = map (λ (s : Stamped). s.stamp) m.stamped in
    let es = λ (q : ℕ). times x (map (λ (s : Stamped). s.stamp) (stamped_in handed.kept q)) in
    let ls = λ (q : ℕ). times x (looked (slice_index_or handed.kept q [])) in
    let split =
    total-same (λ q. times x (map stamp_of (slice_index_or handed.kept q []))) (λ q. es q + ls q) count
    (λ q l. times-kept x (slice_index_or handed.kept q [])) in
    let sum = total-add es ls count in
    let parted = total-parts x count (λ (s : Stamped). s.stamp ∷ []) (λ q s. is_of n q s.entry)
    (λ s q r here there. one-part n q r s.entry here there) m.stamped in
    let each =
    total-same es
    (λ q. times x (flat_map (λ (s : Stamped). s.stamp ∷ []) (filter (λ s. is_of n q s.entry) m.stamped))) count
    (λ q l. ap (times x)
    (ap (map (λ (s : Stamped). s.stamp)) (sym (merged-place settings handed log m q))
    ∙ sym (flat_map_single (λ (s : Stamped). s.stamp) (filter (λ s. is_of n q s.entry) m.stamped)))) in
    let whole = ap (times x) (flat_map_single (λ (s : Stamped). s.stamp) m.stamped) in
    let seen = total-list x looked [] handed.kept count (omega arith) in
    let all = ap (λ ps. times x (flat_map looked ps)) (take_all count handed.kept (omega arith)) in
    let looks = ap (times x) (all-looks n handed stand) in
    let both = times-append x stamps (look_stamps (parts_of n handed)) in
    let once = once-apart (stamps ++ look_stamps (parts_of n handed)) m.others x in
    omega (arith, split, sum, parted, each, whole, seen, all, looks, both, once)

pub no-clash : (settings : Settings) (handed : Handed) (log : List Entry)
    → looks_stand settings.node.shards handed.kept ≡ true
    → IsMerged settings (parts_of settings.node.shards handed) log → Clashes (stamps_of handed.kept) → ⊥
no-clash settings handed log stand m (inl f) =
    let rises = subst IsStrictlyIncreasing (sym (stamps_at-map handed.kept f.part))
    (part-rises settings handed log stand m f.part) in
    let up = rises f.place f.within in
    let down = f.falls in
    omega (arith, up, down)
no-clash settings handed log stand m (inr s) =
    let x = slice_index (stamps_at (stamps_of handed.kept) s.part) s.place in
    let one = stands-once handed.kept s.part s.place s.within x refl in
    let other = stands-once handed.kept s.other s.place_there s.within_there x (sym s.same) in
    let two = total-two (λ q. times x (map stamp_of (slice_index_or handed.kept q [])))
    (length handed.kept) s.part s.other
    s.apart (there-within handed.kept s.part s.place s.within)
    (there-within handed.kept s.other s.place_there s.within_there) in
    let once = all-once settings handed log stand m x in
    omega (arith, one, other, two, once)
