-- Comparing two lists of octets place by place.
use Rattle.std.proofs.Common.{◌≡◌, ℕ, ◌+◌, ◌<◌, ◌≤◌, List, length, slice_index, arith, sym, ◌∙◌, inl, inr, ◌↔◌, IsTrue, nat_lt}
use Rattle.std.proofs.lemmas.Bool.{cases_order}
use Rattle.std.proofs.lemmas.List.{get_or-map}
use Rattle.std.specs.Char.{to_ascii_lowercase}
use Rattle.peer_rules.specs.Election.{lowered, IsGreater}

-- two lists agree in front of a place
pub record Agrees (n : ℕ) (one other : List ℕ) : Type 0 where
  pub agree : (i : ℕ) → i < n → slice_index one i ≡ slice_index other i
  pub within : n ≤ length one
  pub reached : n ≤ length other

-- where the other ends there, or has less there, the first is greater
pub greater-at : (n : ℕ) (one other : List ℕ) → Agrees n one other → n < length one → (n < length other → slice_index other n < slice_index one n) → IsGreater one other
greater-at n one other a w g = (n, record { agree = a.agree; within = w; reached = a.reached; greater = g })

-- where the first ends there, or has less there, it is not
pub not-greater : (n : ℕ) (one other : List ℕ) → Agrees n one other → (n < length one → (n < length other) × (slice_index one n < slice_index other n)) → IsGreater one other → ⊥
not-greater n one other a less (p, g) = elim (cases_order p n) [
  | inl e ↦
      let here : n < length one = rw (← e) g.within in
      let more : slice_index other p < slice_index one p = g.greater (rw e (less here).0) in
      let fewer : slice_index one p < slice_index other p = rw e (less here).1 in
      omega arith
  | inr (inl before) ↦
      let same : slice_index one p ≡ slice_index other p = a.agree p before in
      let reached : n ≤ length other = a.reached in
      let more : slice_index other p < slice_index one p = g.greater (omega arith) in
      omega arith
  | inr (inr behind) ↦
      let within : p < length one = g.within in
      let same : slice_index one n ≡ slice_index other n = g.agree n behind in
      let fewer : slice_index one n < slice_index other n = (less (omega arith)).1 in
      omega arith
]

-- one more place at which they agree
pub Agrees-more : (n : ℕ) (one other : List ℕ) → Agrees n one other → n < length one → n < length other → slice_index one n ≡ slice_index other n → Agrees (n + 1) one other
Agrees-more n one other a w r e = record {
  agree = λ i l. elim (cases_order i n) [
    | inl s ↦ rw s e
    | inr (inl before) ↦ a.agree i before
    | inr (inr behind) ↦ absurd (omega arith)
  ];
  within = omega arith;
  reached = omega arith;
}

-- an octet of a list with letters lowered
pub lowered-at : (octets : List ℕ) (i lower : ℕ) → i < length octets → lower ≡ to_ascii_lowercase (slice_index octets i) → slice_index (lowered octets) i ≡ lower
lowered-at octets i lower l e = get_or-map to_ascii_lowercase octets i 0 0 l ∙ sym e

-- where they first differ, the lesser octet decides
pub decided : (n : ℕ) (one other : List ℕ) (own its : ℕ) → Agrees n one other → n < length one → n < length other → slice_index one n ≡ own → slice_index other n ≡ its → (own ≡ its → ⊥) → IsTrue (nat_lt its own) ↔ IsGreater one other
decided n one other own its a w v e k differ = (
  λ t.
      let less : its < own = grind arith in
      greater-at n one other a w (λ _. rw (e, k) less),
  λ g. elim (cases_order own its) [
    | inl same ↦ absurd (differ same)
    | inr (inl less) ↦ absurd (not-greater n one other a (λ _. (v, rw (e, k) less)) g)
    | inr (inr more) ↦ grind arith
  ],
)
