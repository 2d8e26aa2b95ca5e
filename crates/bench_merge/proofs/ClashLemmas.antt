-- What keeps parts from one order.
use Rattle.std.proofs.Common.{◌≡◌, ◌≢◌, ◌∙◌, ◌+◌, ◌<◌, ◌≤◌, ℕ, List, true, false, length, ap, subst, arith, inl, inr}
use Rattle.std.specs.Prelude.{slice_index, Option, None, Some}
use Rattle.std.proofs.lemmas.Bool.{cases_eq, leb-true, false≢true}
use Rattle.bench_merge.specs.Order.{Clashes, Falls, Shares, stamps_at}
use Rattle.bench_merge.specs.Heads.{IsHead, Merging, UpTo, is_late}
use Rattle.bench_merge.specs.declared.merging.Placed.{Placed}

-- the next one is of the part of the last: that part falls
falls : (parts : List (List ℕ)) (heads : List ℕ) (l t : Placed) → slice_index heads l.part ≡ l.place + 1
    → l.stamp ≡ slice_index (stamps_at parts l.part) l.place → IsHead parts heads t → t.part ≡ l.part → t.stamp ≤ l.stamp → Falls parts
falls parts heads l t next stamp head e late =
    let place : t.place ≡ l.place + 1 = head.place_is ∙ ap (slice_index heads) e ∙ next in
    let within : t.place < length (stamps_at parts l.part) = subst (λ p. t.place < length (stamps_at parts p)) e head.within in
    let is : t.stamp ≡ slice_index (stamps_at parts l.part) (l.place + 1) =
    head.stamp_is ∙ ap (λ p. slice_index (stamps_at parts p) t.place) e ∙ ap (slice_index (stamps_at parts l.part)) place in
    record {
      part = l.part;
      place = l.place;
      within = subst (λ n. n < length (stamps_at parts l.part)) place within;
      falls = omega (arith, is, stamp, late);
    }

-- it is of another part: the two share a stamp
shares : (parts : List (List ℕ)) (heads : List ℕ) (l t : Placed) → l.place < length (stamps_at parts l.part)
    → l.stamp ≡ slice_index (stamps_at parts l.part) l.place → IsHead parts heads t → t.part ≢ l.part → t.stamp ≤ l.stamp
    → l.stamp ≤ slice_index (stamps_at parts t.part) (slice_index heads t.part) → Shares parts
shares parts heads l t there stamp head apart late above =
    let is : t.stamp ≡ slice_index (stamps_at parts t.part) (slice_index heads t.part) =
    head.stamp_is ∙ ap (slice_index (stamps_at parts t.part)) head.place_is in
    let own = head.stamp_is in
    record {
      part = t.part;
      other = l.part;
      apart = apart;
      place = t.place;
      place_there = l.place;
      within = head.within;
      within_there = there;
      same = omega (arith, is, own, stamp, late, above);
    }

-- the next is not above the last
pub late-clash : (parts : List (List ℕ)) (heads : List ℕ) (order : List Placed) (last : Option Placed) (t : Placed)
    → Merging parts heads order last → UpTo parts heads (length parts) (Some t) → is_late last t ≡ true → Clashes parts
late-clash parts heads order None t m next late = absurd (false≢true late)
late-clash parts heads order (Some l) t m next late =
    let top = m.top in
    let head = next.0 in
    let below = leb-true t.stamp l.stamp late in
    elim (cases_eq t.part l.part) [
      | inl e ↦ inl (falls parts heads l t top.next_is top.stamp_is head e below)
      | inr apart ↦
          inr (shares parts heads l t top.within top.stamp_is head apart below
          (top.above t.part apart head.among (subst (λ n. n < length (stamps_at parts t.part)) head.place_is head.within)))
    ]
