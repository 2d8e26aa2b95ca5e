-- What was booked, and journals.
use Rattle.std.proofs.Common.{◌≡◌, ◌∙◌, ◌+◌, ◌<◌, ℕ, List, [], ◌∷◌, ◌++◌, true, length, get_or, take}
use Rattle.std.proofs.Common.{refl, ap, arith}
use Rattle.std.specs.Prelude.{◌&&◌, filter_map, flat_map, is_none, nat_eq, Option, Some, None}
use Rattle.std.specs.Prelude.{option_map, option_to_list, slice_get}
use Rattle.std.proofs.lemmas.Bool.{and_from, and_parts, eq-eqb, eqb-true, false≢true}
use Rattle.std.proofs.lemmas.List.{append-nil, get_or_default, take_more}
use Rattle.std.proofs.lemmas.List.Concat.{flat_map-append}
use Rattle.std.proofs.lemmas.List.Elements.{filter_map-append}
use Rattle.acct_totals.specs.declared.op.Booked.{Booked}
use Rattle.acct_totals.specs.declared.op.Op.{Op}
use Rattle.acct_totals.specs.declared.op.Op.TheVariants.{Charge, Debit, Refund, Release, Reserve}
use Rattle.acct_totals.specs.declared.op.Outcome.{Outcome}
use Rattle.acct_totals.specs.declared.op.Outcome.TheVariants.{Done, Refused}
use Rattle.tab_law.specs.Books.{Laws}
use Rattle.bench_item.specs.Entries.{moved_in}
use Rattle.bench_item.specs.declared.entry.Entry.{Entry}
use Rattle.bench_item.specs.declared.entry.Moved.{Moved}
use Rattle.bench_log.specs.Moves.{machine_in}
use Rattle.bench_merge.specs.declared.merging.Placed.{Placed}
use Rattle.bench_parts.specs.Found.{is_still}
use Rattle.bench_spec.specs.Booked.{booked, booked_by, booked_in}
use Rattle.bench_spec.specs.Machines.{machine_item}
use Rattle.bench_spec.specs.Merged.{Kept}
use Rattle.bench_gather.specs.Checks.{is_same_booked, is_same_op, is_same_outcome}
use Rattle.bench_gather.specs.Ordered.{entries_at, entries_by}

-- one more that gives something, and one more that gives nothing
pub filter_map-some : {X Y : Type 0} (f : X → Option Y) (xs : List X) (i : ℕ) (d : X) (y : Y) → i < length xs
    → f (get_or xs i d) ≡ Some y → filter_map f (take (i + 1) xs) ≡ filter_map f (take i xs) ++ y ∷ []
filter_map-some f xs i d y l s =
    rw (take_more xs i d l, filter_map-append f (take i xs) (get_or xs i d ∷ []), s) refl

pub filter_map-none : {X Y : Type 0} (f : X → Option Y) (xs : List X) (i : ℕ) (d : X) → i < length xs
    → f (get_or xs i d) ≡ None → filter_map f (take (i + 1) xs) ≡ filter_map f (take i xs)
filter_map-none f xs i d l n =
    rw (take_more xs i d l, filter_map-append f (take i xs) (get_or xs i d ∷ []), n)
    (append-nil (filter_map f (take i xs)))

-- two that are found to be the same
four : (a b c d e f g h : ℕ) → ((((nat_eq a e) && (nat_eq b f)) && (nat_eq c g)) && (nat_eq d h)) ≡ true
    → (a ≡ e) × (b ≡ f) × (c ≡ g) × (d ≡ h)
four a b c d e f g h all =
    let p = and_parts (((nat_eq a e) && (nat_eq b f)) && (nat_eq c g)) (nat_eq d h) all in
    let q = and_parts ((nat_eq a e) && (nat_eq b f)) (nat_eq c g) p.0 in
    let r = and_parts (nat_eq a e) (nat_eq b f) q.0 in
    (eqb-true a e r.0, eqb-true b f r.1, eqb-true c g q.1, eqb-true d h p.1)

two : (a b e f : ℕ) → ((nat_eq a e) && (nat_eq b f)) ≡ true → (a ≡ e) × (b ≡ f)
two a b e f all = let r = and_parts (nat_eq a e) (nat_eq b f) all in (eqb-true a e r.0, eqb-true b f r.1)

same-op : (one other : Op) → is_same_op one other ≡ true → one ≡ other
same-op (Reserve a b c d) (Reserve e f g h) all =
    let t = four a b c d e f g h all in
    ap (λ x. Reserve x b c d) t.0 ∙ ap (λ x. Reserve e x c d) t.1 ∙ ap (λ x. Reserve e f x d) t.2
    ∙ ap (λ x. Reserve e f g x) t.3
same-op (Debit a b c d) (Debit e f g h) all =
    let t = four a b c d e f g h all in
    ap (λ x. Debit x b c d) t.0 ∙ ap (λ x. Debit e x c d) t.1 ∙ ap (λ x. Debit e f x d) t.2
    ∙ ap (λ x. Debit e f g x) t.3
same-op (Release a b) (Release e f) all =
    let t = two a b e f all in ap (λ x. Release x b) t.0 ∙ ap (λ x. Release e x) t.1
same-op (Charge a b) (Charge e f) all =
    let t = two a b e f all in ap (λ x. Charge x b) t.0 ∙ ap (λ x. Charge e x) t.1
same-op (Refund a b) (Refund e f) all =
    let t = two a b e f all in ap (λ x. Refund x b) t.0 ∙ ap (λ x. Refund e x) t.1
same-op one other all = absurd (false≢true all)

same-outcome : (one other : Outcome) → is_same_outcome one other ≡ true → one ≡ other
same-outcome (Done a b) (Done e f) all =
    let t = two a b e f all in ap (λ x. Done x b) t.0 ∙ ap (λ x. Done e x) t.1
same-outcome Refused Refused all = refl
same-outcome one other all = absurd (false≢true all)

itself : (a : ℕ) → nat_eq a a ≡ true
itself a = eq-eqb a a refl

twice : (a b : ℕ) → ((nat_eq a a) && (nat_eq b b)) ≡ true
twice a b = and_from (nat_eq a a) (nat_eq b b) (itself a) (itself b)

all-four : (a b c d : ℕ) → ((((nat_eq a a) && (nat_eq b b)) && (nat_eq c c)) && (nat_eq d d)) ≡ true
all-four a b c d =
    and_from (((nat_eq a a) && (nat_eq b b)) && (nat_eq c c)) (nat_eq d d)
    (and_from ((nat_eq a a) && (nat_eq b b)) (nat_eq c c) (twice a b) (itself c)) (itself d)

op-itself : (one : Op) → is_same_op one one ≡ true
op-itself (Reserve a b c d) = all-four a b c d
op-itself (Debit a b c d) = all-four a b c d
op-itself (Release a b) = twice a b
op-itself (Charge a b) = twice a b
op-itself (Refund a b) = twice a b

outcome-itself : (one : Outcome) → is_same_outcome one one ≡ true
outcome-itself (Done a b) = twice a b
outcome-itself Refused = refl

joined : (one other : Booked) → one.op ≡ other.op → one.outcome ≡ other.outcome → one ≡ other
joined one other op outcome =
    let first : one ≡ record { op = other.op; outcome = one.outcome } =
    ap (λ o. record { op = o; outcome = one.outcome }) op in
    first ∙ ap (λ o. record { op = other.op; outcome = o }) outcome

pub same-booked : (one other : Booked) → is_same_booked one other ≡ true → one ≡ other
same-booked one other all =
    let both = and_parts (is_same_op one.op other.op) (is_same_outcome one.outcome other.outcome) all in
    joined one other (same-op one.op other.op both.0) (same-outcome one.outcome other.outcome both.1)

pub booked-itself : (one : Booked) → is_same_booked one one ≡ true
booked-itself one =
    and_from (is_same_op one.op one.op) (is_same_outcome one.outcome one.outcome) (op-itself one.op)
    (outcome-itself one.outcome)

-- what one place more of an order booked
pub booked-next : (laws : Laws) (parts : List (List Kept)) (order : List Placed) (k : ℕ) (t : Placed)
    → take (k + 1) order ≡ take k order ++ t ∷ []
    → booked laws (entries_by parts (take (k + 1) order))
    ≡ booked laws (entries_by parts (take k order)) ++ booked laws (entries_at parts t)
booked-next laws parts order k t more =
    let front = entries_by parts (take k order) in
    let grown : entries_by parts (take (k + 1) order) ≡ front ++ entries_at parts t =
    ap (entries_by parts) more ∙ flat_map-append (entries_at parts) (take k order) (t ∷ [])
    ∙ ap (λ xs. front ++ xs) (append-nil (entries_at parts t)) in
    ap (booked laws) grown ∙ flat_map-append (booked_in laws) front (entries_at parts t)

-- where no machine moved nothing was booked
unmoved : (moves : List Moved) → is_none (option_map (λ (m : Moved). m.machine) (slice_get moves 0)) ≡ true → moves ≡ []
unmoved [] h = refl
unmoved (m ∷ ms) h = absurd (false≢true h)

pub still_books : (laws : Laws) (es : List Entry) → is_still es ≡ true → booked laws es ≡ []
still_books laws [] h = refl
still_books laws (e ∷ es) h =
    let both = and_parts (is_none (machine_in e)) (is_still es) h in
    ap (λ xs. booked_in laws e ++ xs) (still_books laws es both.1)
    ∙ append-nil (booked_in laws e)
    ∙ ap (flat_map (λ moved. flat_map (λ item. booked_by laws item moved) (flat_map machine_item (option_to_list e.item))))
    (unmoved (moved_in e) both.0)

pub same-at : (xs ys : List Booked) (k : ℕ) (d e : Booked) → k < length xs → length xs ≡ length ys
    → is_same_booked (get_or xs k e) (get_or ys k e) ≡ true → get_or xs k d ≡ get_or ys k d
same-at xs ys k d e l long same =
    get_or_default xs k d e l ∙ same-booked (get_or xs k e) (get_or ys k e) same
    ∙ get_or_default ys k e d (omega (arith, l, long))
