-- The least of what is next.
use Rattle.std.proofs.Common.{◌≡◌, ◌∙◌, ◌+◌, ◌<◌, ◌≤◌, ℕ, List, Bool, true, false, length, refl, ap, subst, arith}
use Rattle.std.specs.Prelude.{slice_index, nat_lt, MatchOption, Option, None, Some, if◌then◌else◌}
use Rattle.std.proofs.lemmas.Bool.{ltb-true, ltb-false}
use borrow.Author.Count.{below_more}
use Rattle.bench_merge.specs.declared.merging.Placed.{Placed}
use Rattle.bench_merge.specs.Order.{stamps_at}
use Rattle.bench_merge.specs.Heads.{IsHeadOf, IsLeast, UpTo, lesser}

-- the stamp that is next of a part
stamp_next : (parts : List (List ℕ)) (heads : List ℕ) (n : ℕ) (t : Placed) → IsHeadOf parts heads n t
    → t.stamp ≡ slice_index (stamps_at parts n) (slice_index heads n)
stamp_next parts heads n t h =
    subst (λ m. t.stamp ≡ slice_index (stamps_at parts m) (slice_index heads m)) h.1
    (h.0.stamp_is ∙ ap (slice_index (stamps_at parts t.part)) h.0.place_is)

-- one more part, of which nothing is next
least_still : (parts : List (List ℕ)) (heads : List ℕ) (n : ℕ) (t : Placed) → IsLeast parts heads n t
    → length (stamps_at parts n) ≤ slice_index heads n → IsLeast parts heads (n + 1) t
least_still parts heads n t least taken =
    below_more (λ q. slice_index heads q < length (stamps_at parts q) → t.stamp ≤ slice_index (stamps_at parts q) (slice_index heads q)) n
    least (λ next. absurd (omega (arith, next, taken)))

-- one more part, whose next is above
least_below : (parts : List (List ℕ)) (heads : List ℕ) (n : ℕ) (t head : Placed) → IsLeast parts heads n t
    → IsHeadOf parts heads n head → t.stamp ≤ head.stamp → IsLeast parts heads (n + 1) t
least_below parts heads n t head least of below =
    below_more (λ q. slice_index heads q < length (stamps_at parts q) → t.stamp ≤ slice_index (stamps_at parts q) (slice_index heads q)) n
    least (λ next. subst (λ s. t.stamp ≤ s) (stamp_next parts heads n head of) below)

-- one more part, whose next is the least
least_new : (parts : List (List ℕ)) (heads : List ℕ) (n : ℕ) (head : Placed)
    → ((q : ℕ) → q < n → slice_index heads q < length (stamps_at parts q) → head.stamp ≤ slice_index (stamps_at parts q) (slice_index heads q))
    → IsHeadOf parts heads n head → IsLeast parts heads (n + 1) head
least_new parts heads n head below of = least_below parts heads n head head below of (omega arith)

by_test : (parts : List (List ℕ)) (heads : List ℕ) (n : ℕ) (found head : Placed) (b : Bool) → nat_lt head.stamp found.stamp ≡ b
    → UpTo parts heads n (Some found) → IsHeadOf parts heads n head
    → UpTo parts heads (n + 1) (if b then Some head else Some found)
by_test parts heads n found head true e f h =
    let l = ltb-true head.stamp found.stamp e in
    (h.0, least_new parts heads n head (λ q below next. let k = f.1 q below next in omega (arith, k, l)) h)
by_test parts heads n found head false e f h =
    (f.0, least_below parts heads n found head f.1 h (ltb-false head.stamp found.stamp e))

-- one part more is looked at
pub UpTo-more : (parts : List (List ℕ)) (heads : List ℕ) (n : ℕ) (found head : Option Placed) → UpTo parts heads n found
    → MatchOption head (length (stamps_at parts n) ≤ slice_index heads n) (IsHeadOf parts heads n)
    → UpTo parts heads (n + 1) (lesser found head)
UpTo-more parts heads n None None f h = below_more (λ q. length (stamps_at parts q) ≤ slice_index heads q) n f h
UpTo-more parts heads n None (Some t) f h =
    (h.0, least_new parts heads n t (λ q below next. absurd (let k = f q below in omega (arith, k, next))) h)
UpTo-more parts heads n (Some found) None f h = (f.0, least_still parts heads n found f.1 h)
UpTo-more parts heads n (Some found) (Some t) f h = by_test parts heads n found t (nat_lt t.stamp found.stamp) refl f h
