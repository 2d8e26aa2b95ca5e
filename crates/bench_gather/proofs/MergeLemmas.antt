-- Parts that give the log of an order are merged to it.
use Rattle.std.proofs.Common.{◌≡◌, ◌≢◌, ◌∙◌, ◌+◌, ◌-◌, ◌<◌, ◌≤◌, ℕ, List, [], ◌∷◌, ◌++◌, Bool, true}
use Rattle.std.proofs.Common.{length, drop, get_or, map, take, refl, ap, sym, subst, arith, inl, inr}
use Rattle.std.specs.Prelude.{AllPairs, filter, flat_map, nat_eq, nat_lt}
use Rattle.std.specs.List.{list_all}
use Rattle.std.specs.List.Sorted.{IsStrictlyIncreasing}
use Rattle.std.proofs.lemmas.Bool.{cases_Bool, cases_eq, cases_lt, cond-true, cond-false, eq-eqb, eqb-true, false≢true}
use Rattle.std.proofs.lemmas.Bool.{le-ltb, lt-ltb, ne_eqb}
use Rattle.std.proofs.lemmas.List.{get_or-drop}
use Rattle.std.proofs.lemmas.List.{map-append, take-append-drop, take_all}
use Rattle.std.proofs.lemmas.List.Concat.{flat_map-append}
use Rattle.std.proofs.lemmas.List.Elements.{filter-append}
use Rattle.std.proofs.lemmas.List.Folds.{list_all-map}
use Rattle.bench_looks.specs.Parts.{stamped_in}
use Rattle.bench_merge.specs.Order.{IsOrder, of_part}
use Rattle.bench_merge.specs.declared.merging.Placed.{Placed}
use Rattle.bench_parts.specs.Own.{is_of, part_at}
use Rattle.bench_parts.specs.Views.{stamped_at}
use Rattle.bench_spec.specs.Merged.{Did, Kept, Look, OfClock, OfDesk, OfLines, OfShard, Part, Saw, Stamped}
use Rattle.bench_spec.specs.Merged.{entries_kept}
use Rattle.bench_spec.specs.Merged.{desk_kept, entries_of, is_same_part, look_stamps, looks_kept, part_of, stamp_of}
use Rattle.bench_spec.proofs.RunLemmas.{both_true}
use Rattle.bench_gather.specs.Checks.{is_did, looks_stand}
use Rattle.bench_gather.specs.Given.{Handed, parts_of}
use Rattle.bench_gather.specs.Ordered.{are_own, entries_at, stamped_by, stamps_of}
use Rattle.bench_gather.proofs.LogLemmas.{each-part, items, items-here, items_at, stamped-items, stamps-here}
use Rattle.bench_gather.proofs.LogLemmas.{stamps_at-map}
use Rattle.bench_gather.proofs.TimesLemmas.{AtLeast, apart-once, at_least-less, at_least-rising, once-rising}
use Rattle.bench_gather.proofs.TimesLemmas.{rising-at_least}
use Rattle.bench_gather.proofs.TimesLemmas.{times, times-append, total-list, total-parts, total-same}

-- of what was kept: its stamps are those of its entries and of its looks
abbrev pub entry_stamps : List Kept → List ℕ
entry_stamps ks = map (λ s. s.stamp) (flat_map entries_kept ks)

abbrev pub looked : List Kept → List ℕ
looked ks = map (λ l. l.stamp) (flat_map looks_kept ks)

pub times-kept : (x : ℕ) (ks : List Kept) → times x (map stamp_of ks) ≡ times x (entry_stamps ks) + times x (looked ks)
times-kept x [] = refl
times-kept x (Did s ∷ ks) = let rest = times-kept x ks in omega (arith, rest)
times-kept x (Saw l ∷ ks) = let rest = times-kept x ks in omega (arith, rest)

-- the entries of what rises do
pub entries-rise : (low : ℕ) (ks : List Kept) → AtLeast low (map stamp_of ks) → AtLeast low (entry_stamps ks)
entries-rise low [] a = tt
entries-rise low (Did s ∷ ks) a = (a.0, entries-rise (s.stamp + 1) ks a.1)
entries-rise low (Saw l ∷ ks) a =
    let up = a.0 in at_least-less (l.stamp + 1) low (entry_stamps ks) (omega (arith, up))
    (entries-rise (l.stamp + 1) ks a.1)

-- what keeps rising under a filter
pub at_least-filter : {A : Type 0} (f : A → ℕ) (p : A → Bool) (low : ℕ) (xs : List A) → AtLeast low (map f xs)
    → AtLeast low (map f (filter p xs))
at_least-filter f p low [] a = tt
at_least-filter f p low (x ∷ xs) a =
    let rest = at_least-filter f p (f x + 1) xs a.1 in
    elim (cases_Bool (p x)) [
      | inl is ↦
          subst (λ ys. AtLeast low (map f ys)) (sym (cond-true (p x) (x ∷ filter p xs) (filter p xs) is)) (a.0, rest)
      | inr other ↦
          let up = a.0 in
          subst (λ ys. AtLeast low (map f ys)) (sym (cond-false (p x) (x ∷ filter p xs) (filter p xs) other))
          (at_least-less (f x + 1) low (map f (filter p xs)) (omega (arith, up)) rest)
    ]

-- looks stand in the parts of desks alone, so all looks are those of desks
none-looked : (ks : List Kept) → list_all is_did ks ≡ true → looked ks ≡ []
none-looked [] all = refl
none-looked (Did s ∷ ks) all = none-looked ks all
none-looked (Saw l ∷ ks) all = absurd (false≢true all)

none-looked-all : (parts : List (List Kept)) → list_all (λ kept. list_all is_did kept) parts ≡ true
    → flat_map looked parts ≡ []
none-looked-all [] all = refl
none-looked-all (ks ∷ parts) all =
    let both = both_true (list_all is_did ks) (list_all (λ kept. list_all is_did kept) parts) all in
    ap (λ xs. xs ++ flat_map looked parts) (none-looked ks both.0) ∙ none-looked-all parts both.1

looked-all : (parts : List (List Kept))
    → flat_map looked parts ≡ map (λ l. l.stamp) (flat_map (λ kept. flat_map looks_kept kept) parts)
looked-all [] = refl
looked-all (ks ∷ parts) =
    ap (λ xs. looked ks ++ xs) (looked-all parts)
    ∙ sym (map-append (λ (l : Look). l.stamp) (flat_map looks_kept ks)
    (flat_map (λ kept. flat_map looks_kept kept) parts))

pub all-looks : (shards : ℕ) (handed : Handed) → looks_stand shards handed.kept ≡ true
    → flat_map looked handed.kept ≡ look_stamps (parts_of shards handed)
all-looks shards handed stand =
    let front = take (shards + 2) handed.kept in
    let rest = drop (shards + 2) handed.kept in
    ap (flat_map looked) (sym (take-append-drop (shards + 2) handed.kept)) ∙ flat_map-append looked front rest
    ∙ ap (λ xs. xs ++ flat_map looked rest) (none-looked-all front stand) ∙ looked-all rest

-- the looks of all parts are among those of an order
looked-items : (parts : List (List Kept)) (order : List Placed)
    → flat_map (λ t. looked (items_at parts t)) order ≡ looked (items parts order)
looked-items parts [] = refl
looked-items parts (t ∷ rest) =
    ap (λ xs. looked (items_at parts t) ++ xs) (looked-items parts rest)
    ∙ sym
    (ap (map (λ (l : Look). l.stamp)) (flat_map-append looks_kept (items_at parts t) (items parts rest))
    ∙ map-append (λ (l : Look). l.stamp) (flat_map looks_kept (items_at parts t))
    (flat_map looks_kept (items parts rest)))

looks-within : (x : ℕ) (parts : List (List Kept)) (order : List Placed) → IsOrder (stamps_of parts) order
    → times x (flat_map looked parts) ≤ times x (looked (items parts order))
looks-within x parts order o =
    let n = length parts in
    let g = λ (t : Placed). looked (items_at parts t) in
    let parted =
    total-parts x n g (λ q t. nat_eq t.part q)
    (λ t q r here there. sym (eqb-true t.part q here) ∙ eqb-true t.part r there) order in
    let each =
    total-same (λ q. times x (looked (get_or parts q []))) (λ q. times x (flat_map g (of_part q order))) n
    (λ q l. ap (times x) (sym (looked-items parts (of_part q order) ∙ ap looked (items-here parts [] order q o)))) in
    let all = total-list x looked [] parts n (omega arith) in
    let whole = ap (λ ps. times x (flat_map looked ps)) (take_all n parts (omega arith)) in
    let same = ap (times x) (looked-items parts order) in
    omega (arith, parted, each, all, whole, same)

items-rise : (parts : List (List Kept)) (order : List Placed) → IsOrder (stamps_of parts) order
    → AtLeast 0 (map stamp_of (items parts order))
items-rise parts order o =
    subst (AtLeast 0) (sym (stamps-here parts [] order o))
    (at_least-rising 0 (map (λ t. t.stamp) order) (λ some. omega arith) o.rising)

pub order-rises : (parts : List (List Kept)) (order : List Placed) → IsOrder (stamps_of parts) order
    → AtLeast 0 (map (λ s. s.stamp) (stamped_by parts order))
order-rises parts order o =
    subst (λ xs. AtLeast 0 (map (λ (s : Stamped). s.stamp) xs)) (sym (stamped-items parts order))
    (entries-rise 0 (items parts order) (items-rise parts order o))

pub order-apart : (shards : ℕ) (handed : Handed) (order : List Placed) → IsOrder (stamps_of handed.kept) order
    → looks_stand shards handed.kept ≡ true
    → AllPairs (λ one other. one ≢ other)
    (map (λ s. s.stamp) (stamped_by handed.kept order) ++ look_stamps (parts_of shards handed))
order-apart shards handed order o stand =
    let ks = items handed.kept order in
    let es = map (λ (s : Stamped). s.stamp) (stamped_by handed.kept order) in
    let ls = look_stamps (parts_of shards handed) in
    apart-once (es ++ ls)
    (λ x.
    let both = times-append x es ls in
    let once = once-rising 0 (map stamp_of ks) (items-rise handed.kept order o) x in
    let split = times-kept x ks in
    let entries = ap (λ xs. times x (map (λ (s : Stamped). s.stamp) xs)) (stamped-items handed.kept order) in
    let looks = looks-within x handed.kept order o in
    let all = ap (times x) (all-looks shards handed stand) in
    omega (arith, both, once, split, entries, looks, all))

pub desk-rises : (shards : ℕ) (handed : Handed) (order : List Placed) → IsOrder (stamps_of handed.kept) order
    → (desk : ℕ) → IsStrictlyIncreasing (map stamp_of (desk_kept (parts_of shards handed) desk))
desk-rises shards handed order o desk =
    let place = shards + 2 + desk in
    let rises : AtLeast 0 (map (λ (t : Placed). t.stamp) (of_part place order)) =
    at_least-filter (λ (t : Placed). t.stamp) (λ t. nat_eq t.part place) 0 order
    (at_least-rising 0 (map (λ t. t.stamp) order) (λ some. omega arith) o.rising) in
    rising-at_least 0 (map stamp_of (desk_kept (parts_of shards handed) desk))
    (subst (AtLeast 0)
    (o.stamps place ∙ stamps_at-map handed.kept place
    ∙ ap (map stamp_of) (sym (get_or-drop (shards + 2) handed.kept desk []))) rises)

-- which part an entry belongs to
pub same-part : (a b : Part) → is_same_part a b ≡ true → a ≡ b
same-part (OfShard a) (OfShard b) h = ap (λ n. OfShard n) (eqb-true a b h)
same-part OfLines OfLines h = refl
same-part OfClock OfClock h = refl
same-part (OfDesk a) (OfDesk b) h = ap (λ n. OfDesk n) (eqb-true a b h)
same-part a b h = absurd (false≢true h)

pub part-itself : (a : Part) → is_same_part a a ≡ true
part-itself (OfShard a) = eq-eqb a a refl
part-itself OfLines = refl
part-itself OfClock = refl
part-itself (OfDesk a) = eq-eqb a a refl

-- a part at a place
pub shard-at : (shards shard : ℕ) → shard < shards → part_at shards shard ≡ OfShard shard
shard-at shards shard l = cond-true (nat_lt shard shards) (OfShard shard) _ (lt-ltb shard shards l)

pub lines-at : (shards : ℕ) → part_at shards shards ≡ OfLines
lines-at shards =
    cond-false (nat_lt shards shards) (OfShard shards) _ (le-ltb shards shards (omega arith))
    ∙ cond-true (nat_eq shards shards) OfLines _ (eq-eqb shards shards refl)

pub clock-at : (shards : ℕ) → part_at shards (shards + 1) ≡ OfClock
clock-at shards =
    cond-false (nat_lt (shards + 1) shards) (OfShard (shards + 1)) _ (le-ltb (shards + 1) shards (omega arith))
    ∙ cond-false (nat_eq (shards + 1) shards) OfLines _ (ne_eqb (shards + 1) shards (λ e. omega (arith, e)))
    ∙ cond-true (nat_eq (shards + 1) (shards + 1)) OfClock _ (eq-eqb (shards + 1) (shards + 1) refl)

pub desk-at : (shards desk : ℕ) → part_at shards (shards + 2 + desk) ≡ OfDesk desk
desk-at shards desk =
    let place = shards + 2 + desk in
    let number : place - shards - 2 ≡ desk = omega arith in
    cond-false (nat_lt place shards) (OfShard place) _ (le-ltb place shards (omega arith))
    ∙ cond-false (nat_eq place shards) OfLines _ (ne_eqb place shards (λ e. omega (arith, e)))
    ∙ cond-false (nat_eq place (shards + 1)) OfClock _ (ne_eqb place (shards + 1) (λ e. omega (arith, e)))
    ∙ ap OfDesk number

-- no shard past the last is at a place
shard-within : (shards place shard : ℕ) → part_at shards place ≡ OfShard shard → shard < shards
shard-within shards place shard is =
    elim (cases_lt place shards) [
      | inl l ↦
          let e : OfShard place ≡ OfShard shard = sym (shard-at shards place l) ∙ is in
          let same : place ≡ shard = cc in
          omega (arith, l, same)
      | inr past ↦
          elim (cases_eq place shards) [
            | inl e ↦ absurd
                (let bad : OfLines ≡ OfShard shard = sym (lines-at shards) ∙ ap (part_at shards) (sym e) ∙ is in cc)
            | inr apart ↦
                elim (cases_eq place (shards + 1)) [
                  | inl e ↦
                      absurd (let bad : OfClock ≡ OfShard shard = sym (clock-at shards) ∙ ap (part_at shards) (sym e)
                      ∙ is in cc)
                  | inr behind ↦
                      let far : place ≡ shards + 2 + (place - shards - 2) = omega (arith, past, apart, behind) in
                      absurd
                      (let bad : OfDesk (place - shards - 2) ≡ OfShard shard =
                      sym (desk-at shards (place - shards - 2)) ∙ ap (part_at shards) (sym far) ∙ is in cc)
                ]
          ]
    ]

-- nothing in an order is of a shard that is not there
no-shard : (shards shard : ℕ) → shards ≤ shard → (place : ℕ) (xs : List Stamped)
    → list_all (λ s. is_of shards place s.entry) xs ≡ true
    → filter (λ s. is_same_part (OfShard shard) (part_of shards s.entry)) xs ≡ []
no-shard shards shard past place [] own = refl
no-shard shards shard past place (x ∷ xs) own =
    let both = both_true (is_of shards place x.entry) (list_all (λ (s : Stamped). is_of shards place s.entry) xs) own in
    let p = λ (s : Stamped). is_same_part (OfShard shard) (part_of shards s.entry) in
    elim (cases_Bool (is_same_part (OfShard shard) (part_of shards x.entry))) [
      | inl is ↦
          let here : part_at shards place ≡ OfShard shard =
          same-part (part_at shards place) (part_of shards x.entry) both.0
          ∙ sym (same-part (OfShard shard) (part_of shards x.entry) is) in
          absurd (let within = shard-within shards place shard here in omega (arith, within, past))
      | inr other ↦
          cond-false (p x) (x ∷ filter p xs) (filter p xs) other ∙ no-shard shards shard past place xs both.1
    ]

no-shard-by : (shards shard : ℕ) → shards ≤ shard → (parts : List (List Kept)) (order : List Placed)
    → are_own shards parts order ≡ true
    → filter (λ s. is_same_part (OfShard shard) (part_of shards s.entry)) (stamped_by parts order) ≡ []
no-shard-by shards shard past parts [] own = refl
no-shard-by shards shard past parts (t ∷ rest) own =
    let both = both_true (list_all (is_of shards t.part) (entries_at parts t)) (are_own shards parts rest) own in
    let here = sym (list_all-map (is_of shards t.part) (λ (s : Stamped). s.entry) (stamped_at parts t.part t.place))
    ∙ both.0 in
    let p = λ (s : Stamped). is_same_part (OfShard shard) (part_of shards s.entry) in
    filter-append p (stamped_at parts t.part t.place) (stamped_by parts rest)
    ∙ ap (λ xs. xs ++ filter p (stamped_by parts rest))
    (no-shard shards shard past t.part (stamped_at parts t.part t.place) here)
    ∙ no-shard-by shards shard past parts rest both.1

-- each part is what the order has of it
by-place : (shards : ℕ) (handed : Handed) (order : List Placed) (part : Part) (place : ℕ) → part_at shards place ≡ part
    → IsOrder (stamps_of handed.kept) order → are_own shards handed.kept order ≡ true
    → filter (λ s. is_same_part part (part_of shards s.entry))
    (stamped_by handed.kept order) ≡ stamped_in handed.kept place
by-place shards handed order part place at o own =
    subst
    (λ p. filter (λ (s : Stamped). is_same_part p (part_of shards s.entry))
    (stamped_by handed.kept order) ≡ stamped_in handed.kept place)
    at (each-part shards handed.kept order o own place)

pub parts-in_order : (shards : ℕ) (handed : Handed) (order : List Placed) → IsOrder (stamps_of handed.kept) order
    → are_own shards handed.kept order ≡ true → (part : Part)
    → filter (λ s. is_same_part part (part_of shards s.entry)) (stamped_by handed.kept order)
    ≡ entries_of (parts_of shards handed) part
parts-in_order shards handed order o own (OfShard shard) =
    elim (cases_lt shard shards) [
      | inl l ↦
          by-place shards handed order (OfShard shard) shard (shard-at shards shard l) o own
          ∙ sym (cond-true (nat_lt shard shards) (stamped_in handed.kept shard) [] (lt-ltb shard shards l))
      | inr past ↦
          no-shard-by shards shard past handed.kept order own
          ∙ sym (cond-false (nat_lt shard shards) (stamped_in handed.kept shard) [] (le-ltb shard shards past))
    ]
parts-in_order shards handed order o own OfLines = by-place shards handed order OfLines shards (lines-at shards) o own
parts-in_order shards handed order o own OfClock =
    by-place shards handed order OfClock (shards + 1) (clock-at shards) o own
parts-in_order shards handed order o own (OfDesk desk) =
    by-place shards handed order (OfDesk desk) (shards + 2 + desk) (desk-at shards desk) o own
    ∙ ap (flat_map entries_kept) (sym (get_or-drop (shards + 2) handed.kept desk []))
