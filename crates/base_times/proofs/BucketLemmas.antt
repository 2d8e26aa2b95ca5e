-- Where buckets begin, and that each time lies in its own.
use Rattle.std.proofs.Common.{◌≡◌, ◌∙◌, ◌<◌, ◌≤◌, ◌+◌, ◌-◌, ◌*◌, ◌/◌, ◌%◌, ◌^◌, ℕ, ap, inl, inr, refl, sym, suc, zero, arith}
use Rattle.std.proofs.lemmas.Bool.{cases_lt}
use Rattle.std.proofs.lemmas.Bool.Decides.{nat_tests}
use Rattle.std.proofs.lemmas.Grind.{pow_more}
use Rattle.std.proofs.lemmas.Nat.{leading_top, pow_pos}
use Rattle.std.proofs.Math.Nat.{div-mul-le_self, le-div_iff_mul-le, div-lt_iff_lt-mul, lt-div-mul-add, mul-le-mul_right, pow-le-pow_right}
use Rattle.base_times.specs.declared.bucket.TheConstants.{BUCKETS}
use Rattle.base_times.specs.Buckets.{HasBucket, bucket_of, low_of, top_of}

pub low_small : (b : ℕ) → b < 16 → low_of b ≡ b
unfolding low_of
low_small b small = grind (arith, nat_tests)

pub low_wide : (b : ℕ) → 16 ≤ b → low_of b ≡ (16 + b % 16) * 2 ^ (b / 16 - 1)
unfolding low_of
low_wide b wide = grind (arith, nat_tests)

-- a bucket behind the first 16, by its span and its place there
pub low_at : (p r : ℕ) → r < 16 → low_of (p * 16 + (16 + r)) ≡ (16 + r) * 2 ^ p
low_at p r small =
    let place : (p * 16 + (16 + r)) % 16 ≡ r = omega arith in
    let span : (p * 16 + (16 + r)) / 16 - 1 ≡ p = omega arith in
    let wide : 16 ≤ p * 16 + (16 + r) = omega arith in
    low_wide (p * 16 + (16 + r)) wide ∙ rw (place, span) refl

next_in : (p r : ℕ) → r + 1 < 16 → low_of (p * 16 + (16 + r) + 1) ≡ (16 + r) * 2 ^ p + 2 ^ p
next_in p r more =
    let same : p * 16 + (16 + r) + 1 ≡ p * 16 + (16 + (r + 1)) = omega arith in
    let at : low_of (p * 16 + (16 + (r + 1))) ≡ (16 + (r + 1)) * 2 ^ p = low_at p (r + 1) more in
    rw same (omega (arith, at))

next_behind : (p r : ℕ) → r ≡ 15 → low_of (p * 16 + (16 + r) + 1) ≡ (16 + r) * 2 ^ p + 2 ^ p
next_behind p r last =
    let same : p * 16 + (16 + r) + 1 ≡ (p + 1) * 16 + (16 + 0) = omega arith in
    let at : low_of ((p + 1) * 16 + (16 + 0)) ≡ (16 + 0) * 2 ^ (p + 1) = low_at (p + 1) 0 (omega arith) in
    rw (same, last) (omega (arith, at, pow_more 2 p))

-- the bucket behind it
pub low_next : (p r : ℕ) → r < 16 → low_of (p * 16 + (16 + r) + 1) ≡ (16 + r) * 2 ^ p + 2 ^ p
low_next p r small = elim (cases_lt (r + 1) 16) [
  | inl more ↦ next_in p r more
  | inr last ↦ next_behind p r (omega arith)
]

pub next_small : (b : ℕ) → b < 16 → low_of (b + 1) ≡ b + 1
next_small b small = elim (cases_lt (b + 1) 16) [
  | inl more ↦ low_small (b + 1) more
  | inr last ↦ let same : b + 1 ≡ 0 * 16 + (16 + 0) = omega arith in
      let at : low_of (0 * 16 + (16 + 0)) ≡ (16 + 0) * 2 ^ 0 = low_at 0 0 (omega arith) in
      ap low_of same ∙ at ∙ omega arith
]

-- a bucket behind the first 16 is of a span and a place there
span_of : (b : ℕ) → 16 ≤ b → b ≡ (b / 16 - 1) * 16 + (16 + b % 16)
span_of b wide = omega arith

pub next_wide : (b : ℕ) → 16 ≤ b → low_of (b + 1) ≡ low_of b + 2 ^ (b / 16 - 1)
next_wide b wide =
    let here : b % 16 < 16 = omega arith in
    let next : low_of ((b / 16 - 1) * 16 + (16 + b % 16) + 1) ≡ (16 + b % 16) * 2 ^ (b / 16 - 1) + 2 ^ (b / 16 - 1)
    = low_next (b / 16 - 1) (b % 16) here in
    let same : b + 1 ≡ (b / 16 - 1) * 16 + (16 + b % 16) + 1 = ap (λ (n : ℕ). n + 1) (span_of b wide) in
    ap low_of same ∙ next ∙ ap (λ (n : ℕ). n + 2 ^ (b / 16 - 1)) (sym (low_wide b wide))

pub low_more : (b : ℕ) → low_of b ≤ low_of (b + 1)
low_more b = elim (cases_lt b 16) [
  | inl small ↦ omega (arith, low_small b small, next_small b small)
  | inr wide ↦ omega (arith, next_wide b wide)
]

pub low_le_by : (b n : ℕ) → low_of b ≤ low_of (b + n)
low_le_by b zero = let same : b + 0 ≡ b = omega arith in rw same (omega arith)
low_le_by b (suc n) =
    let same : b + suc n ≡ b + n + 1 = omega arith in
    rw same (omega (arith, low_le_by b n, low_more (b + n)))

-- a later bucket begins no earlier
pub low_le : (a b : ℕ) → a ≤ b → low_of a ≤ low_of b
low_le a b le = let same : b ≡ a + (b - a) = omega arith in rw same (low_le_by a (b - a))

-- a time of span p, whose quotient by the width is 16 to 31
in_span : (p q time : ℕ) → p ≤ 59 → 16 ≤ q → q < 32 → q * 2 ^ p ≤ time → time < q * 2 ^ p + 2 ^ p → HasBucket time (p * 16 + q)
in_span p q time few above small from below =
    let is : q ≡ 16 + (q - 16) = omega arith in
    let at : low_of (p * 16 + q) ≡ q * 2 ^ p = rw is (low_at p (q - 16) (omega arith)) in
    let next : low_of (p * 16 + q + 1) ≡ q * 2 ^ p + 2 ^ p = rw is (low_next p (q - 16) (omega arith)) in
    let wide : 16 * 2 ^ p ≤ q * 2 ^ p = mul-le-mul_right (2 ^ p) above in
    record {
      there = omega arith;
      from = omega (arith, at);
      below = omega (arith, next);
      narrow = omega (arith, at, next, wide);
    }

small_has : (time : ℕ) → time < 16 → HasBucket time time
small_has time small = record {
  there = omega arith;
  from = omega (arith, low_small time small);
  below = omega (arith, next_small time small);
  narrow = omega (arith, low_small time small, next_small time small);
}

pub bucket_small : (time : ℕ) → time < 16 → bucket_of time ≡ time
unfolding bucket_of
bucket_small time small = grind (arith, nat_tests)

pub bucket_wide : (time : ℕ) → 16 ≤ time → bucket_of time ≡ (top_of time - 4) * 16 + time / 2 ^ (top_of time - 4)
unfolding bucket_of
bucket_wide time wide = grind (arith, nat_tests)

-- a time that is no less than 2^top and below 2^(top + 1)
quotient_has : (top time : ℕ) → 16 ≤ time → top < 64 → 2 ^ top ≤ time → time < 2 ^ (top + 1) → HasBucket time ((top - 4) * 16 + time / 2 ^ (top - 4))
quotient_has top time wide few from below =
    let high : 4 ≤ top = at_least_four top time wide below in
    let some : 0 < 2 ^ (top - 4) = pow_pos (top - 4) in
    let width : 2 ^ top ≡ 16 * 2 ^ (top - 4) = sixteenth top high in
    let double : 2 ^ (top + 1) ≡ 2 ^ top * 2 = pow_more 2 top in
    let least : 16 * 2 ^ (top - 4) ≤ time = omega arith in
    let most : time < 32 * 2 ^ (top - 4) = omega arith in
    let above : 16 ≤ time / 2 ^ (top - 4) = (le-div_iff_mul-le some).1 least in
    let small : time / 2 ^ (top - 4) < 32 = (div-lt_iff_lt-mul some).1 most in
    in_span (top - 4) (time / 2 ^ (top - 4)) time (omega arith) above small (div-mul-le_self time (2 ^ (top - 4))) (lt-div-mul-add some)
  where
    at_least_four : (top time : ℕ) → 16 ≤ time → time < 2 ^ (top + 1) → 4 ≤ top
    at_least_four top time wide below = elim (cases_lt top 4) [
      | inl low ↦ let most : 2 ^ (top + 1) ≤ 2 ^ 4 = pow-le-pow_right {n = 2} (omega arith) {i = top + 1} {j = 4} (omega arith) in absurd (omega arith)
      | inr high ↦ high
    ]

    sixteenth : (top : ℕ) → 4 ≤ top → 2 ^ top ≡ 16 * 2 ^ (top - 4)
    sixteenth top high = by (top - 4) (omega arith)
      where
        by : (p : ℕ) → top ≡ p + 1 + 1 + 1 + 1 → 2 ^ top ≡ 16 * 2 ^ p
        by p is = rw is (omega (arith, pow_more 2 p, pow_more 2 (p + 1), pow_more 2 (p + 1 + 1), pow_more 2 (p + 1 + 1 + 1)))

wide_has : (time : ℕ) → 16 ≤ time → time < 2 ^ 64 → HasBucket time ((top_of time - 4) * 16 + time / 2 ^ (top_of time - 4))
wide_has time wide fits =
    let t = leading_top 64 time (omega arith) fits in
    let is : top_of time ≡ t.0 = omega (arith, t.1) in
    let same : suc t.0 ≡ t.0 + 1 = omega arith in
    rw is (quotient_has t.0 time wide (omega (arith, t.1)) t.2 (rw same at t.3))

-- each time of 64 bits lies in its bucket
pub has_bucket : (time : ℕ) → time < 2 ^ 64 → HasBucket time (bucket_of time)
has_bucket time fits = elim (cases_lt time 16) [
  | inl small ↦ rw (bucket_small time small) (small_has time small)
  | inr wide ↦ rw (bucket_wide time wide) (wide_has time wide fits)
]

-- what the code computes fits
pub top_high : (time : ℕ) → 16 ≤ time → time < 2 ^ 64 → 4 ≤ top_of time
top_high time wide fits =
    let t = leading_top 64 time (omega arith) fits in
    let is : top_of time ≡ t.0 = omega (arith, t.1) in
    let same : suc t.0 ≡ t.0 + 1 = omega arith in
    rw is (four t.0 time wide (rw same at t.3))
  where
    four : (top time : ℕ) → 16 ≤ time → time < 2 ^ (top + 1) → 4 ≤ top
    four top time wide below = elim (cases_lt top 4) [
      | inl low ↦ let most : 2 ^ (top + 1) ≤ 2 ^ 4 = pow-le-pow_right {n = 2} (omega arith) {i = top + 1} {j = 4} (omega arith) in absurd (omega arith)
      | inr high ↦ high
    ]

pub bucket_there : (time : ℕ) → time < 2 ^ 64 → bucket_of time < BUCKETS
bucket_there time fits = (has_bucket time fits).there

-- the width of a bucket behind the first 16 is small
pub width_small : (b : ℕ) → b < BUCKETS → 2 ^ (b / 16 - 1) ≤ 2 ^ 59
width_small b there = pow-le-pow_right {n = 2} (omega arith) {i = b / 16 - 1} {j = 59} (omega arith)

-- the last time of such a bucket
pub last_small : (b : ℕ) → b < BUCKETS → (16 + b % 16) * 2 ^ (b / 16 - 1) ≤ 31 * 2 ^ 59
last_small b there =
    let most : 16 + b % 16 ≤ 31 = omega arith in
    let wider : (16 + b % 16) * 2 ^ (b / 16 - 1) ≤ 31 * 2 ^ (b / 16 - 1) = mul-le-mul_right (2 ^ (b / 16 - 1)) most in
    omega (arith, wider, width_small b there)

-- behind the last bucket there are no numbers of 64 bits
pub low_end : low_of BUCKETS ≡ 2 ^ 64
low_end = low_at 60 0 (omega arith)
