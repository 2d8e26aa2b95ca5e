-- Counts of times, and the bucket in which a rank lies.
use Rattle.std.proofs.Common.{◌≡◌, ◌≢◌, ◌∙◌, ◌<◌, ◌≤◌, ◌+◌, ◌-◌, ◌*◌, ◌^◌, ◌++◌, ◌∷◌, ℕ, Bool, true, false, List, [], Option, None, Some, All, ap, inl, inr, length, get_or, refl, subst, sym, suc, take, zero, cond, arith, get_or-set_same, get_or-set_other}
use Rattle.std.specs.Prelude.{◌&&◌, ◌==◌, IfSome, count_by, min, nat_le, nat_lt, sum}
use Rattle.std.proofs.lemmas.Bool.{cases_lt, cases_eq}
use Rattle.std.proofs.Math.Nat.{mul-le-mul_left}
use Rattle.std.proofs.lemmas.Bool.Decides.{nat_tests}
use Rattle.std.proofs.lemmas.List.{get_or-replicate, length-replicate, length-set, take_all}
use Rattle.std.proofs.lemmas.List.Elements.{All-append, All-nil}
use Rattle.std.proofs.lemmas.List.Sums.{count_by-le-length, sum_by-append, sum_by-cons, sum_by_more}
use Rattle.base_times.specs.declared.bucket.TheConstants.{BUCKETS}
use Rattle.base_times.specs.Buckets.{HasBucket, bucket_of, is_in, low_of}
use Rattle.base_times.specs.Counts.{counted_at, more}
use Rattle.base_times.specs.Percentiles.{AreCounts, IsPercentile, no_counts, percentile_of, rank_of, reached}
use Rattle.base_times.proofs.BucketLemmas.{has_bucket, low_end, low_le, low_more, low_small}

-- one more item
count_by-cons : {X : Type 0} (p : X → Bool) (x : X) (xs : List X) → count_by p (x ∷ xs) ≡ cond (p x) 1 0 + count_by p xs
count_by-cons p x xs = sum_by-cons (λ y. cond (p y) 1 0) x xs

count_by-more : {X : Type 0} (p : X → Bool) (xs : List X) (x : X) → count_by p (xs ++ x ∷ []) ≡ count_by p xs + cond (p x) 1 0
count_by-more p xs x = sum_by-append (λ y. cond (p y) 1 0) xs (x ∷ []) ∙ ap (λ (n : ℕ). count_by p xs + n) (count_by-cons p x [] ∙ omega arith)

-- tests that say the same
count_by-same : (p q : ℕ → Bool) (xs : List ℕ) → ((x : ℕ) → p x ≡ q x) → count_by p xs ≡ count_by q xs
count_by-same p q [] same = refl
count_by-same p q (x ∷ xs) same = cc (count_by-cons p x xs, count_by-cons q x xs, same x, count_by-same p q xs same)

-- of one bound and a greater one: what lies below the one, and what lies between
split_at : (low high x : ℕ) → low ≤ high → cond (nat_lt x high) 1 0 ≡ cond (nat_lt x low) 1 0 + cond (nat_le low x && nat_lt x high) 1 0
split_at low high x le = grind (arith, nat_tests)

count_by-split : (low high : ℕ) (xs : List ℕ) → low ≤ high
    → count_by (λ x. nat_lt x high) xs ≡ count_by (λ x. nat_lt x low) xs + count_by (λ x. nat_le low x && nat_lt x high) xs
count_by-split low high [] le = refl
count_by-split low high (x ∷ xs) le =
    omega (
      arith,
      count_by-cons (λ x. nat_lt x high) x xs,
      count_by-cons (λ x. nat_lt x low) x xs,
      count_by-cons (λ x. nat_le low x && nat_lt x high) x xs,
      split_at low high x le,
      count_by-split low high xs le,
    )

-- below 0 there is nothing
none_below_0 : (xs : List ℕ) → count_by (λ x. nat_lt x 0) xs ≡ 0
none_below_0 [] = refl
none_below_0 (x ∷ xs) = count_by-cons (λ x. nat_lt x 0) x xs ∙ rw (none x) (omega (arith, none_below_0 xs))
  where
    none : (x : ℕ) → cond {A = ℕ} (nat_lt x 0) 1 0 ≡ 0
    none x = grind (arith, nat_tests)

-- how many times lie in the first buckets
pub sum_front : (counts times : List ℕ) → AreCounts counts times → (b : ℕ) → b ≤ BUCKETS
    → sum (take b counts) ≡ count_by (λ time. nat_lt time (low_of b)) times
sum_front counts times are zero le =
    let begin : low_of 0 ≡ 0 = low_small 0 (omega arith) in
    rw begin (sym (none_below_0 times))
sum_front counts times are (suc b) le =
    let next : suc b ≡ b + 1 = omega arith in
    let within : b < length counts = omega (arith, are.length_is) in
    let here : sum (take (b + 1) counts) ≡ sum (take b counts) + get_or counts b 0 = sum_by_more (λ (x : ℕ). x) counts b 0 within in
    let in_it : get_or counts b 0 ≡ count_by (is_in b) times = are.each b (omega arith) in
    let front = sum_front counts times are b (omega arith) in
    let parts = count_by-split (low_of b) (low_of (b + 1)) times (low_more b) in
    rw next (omega (arith, here, in_it, front, parts))

-- all lie below a bound
count_by-all : (p : ℕ → Bool) (xs : List ℕ) → ((k : ℕ) (d : ℕ) → k < length xs → p (get_or xs k d) ≡ true) → count_by p xs ≡ length xs
count_by-all p [] each = refl
count_by-all p (x ∷ xs) each =
    let first : p x ≡ true = each 0 0 (omega arith) in
    let rest : count_by p xs ≡ length xs = count_by-all p xs (λ k d within. each (suc k) d (omega arith)) in
    count_by-cons p x xs ∙ rw first (omega (arith, rest))

-- the counts' sum is how many times there are
pub sum_all : (counts times : List ℕ) → AreCounts counts times → sum counts ≡ length times
sum_all counts times are =
    let whole : take BUCKETS counts ≡ counts = take_all BUCKETS counts (omega (arith, are.length_is)) in
    let front : sum (take BUCKETS counts) ≡ count_by (λ time. nat_lt time (low_of BUCKETS)) times = sum_front counts times are BUCKETS (omega arith) in
    let each : (k : ℕ) (d : ℕ) → k < length times → nat_lt (get_or times k d) (low_of BUCKETS) ≡ true
    = (λ k d within. fits_in (get_or times k d) (are.fit k d within)) in
    ap sum (sym whole) ∙ front ∙ count_by-all (λ time. nat_lt time (low_of BUCKETS)) times each
  where
    fits_in : (time : ℕ) → time < 2 ^ 64 → nat_lt time (low_of BUCKETS) ≡ true
    fits_in time fits = rw low_end (below time fits)
      where
        below : (time : ℕ) → time < 2 ^ 64 → nat_lt time (2 ^ 64) ≡ true
        below time fits = grind (arith, nat_tests)

-- where a rank lies
pub record Lies (rank : ℕ) (counts : List ℕ) (place : ℕ) : Type 0 where
  pub there : place < length counts
  pub before : sum (take place counts) < rank
  pub upto : rank ≤ sum (take (place + 1) counts)

here_lies : (rank count : ℕ) (counts : List ℕ) → 0 < rank → rank ≤ count → Lies rank (count ∷ counts) 0
here_lies rank count counts some le = record {
  there = omega arith;
  before = some;
  upto = omega (arith, sum_by-cons (λ (x : ℕ). x) count []);
}

later_lies : (rank count : ℕ) (counts : List ℕ) (place : ℕ) → count < rank → Lies (rank - count) counts place → Lies rank (count ∷ counts) (place + 1)
later_lies rank count counts place past lies =
    let one : place + 1 ≡ suc place = omega arith in
    let two : place + 1 + 1 ≡ suc (place + 1) = omega arith in
    let first : sum (take (suc place) (count ∷ counts)) ≡ count + sum (take place counts) = sum_by-cons (λ (x : ℕ). x) count (take place counts) in
    let second : sum (take (suc (place + 1)) (count ∷ counts)) ≡ count + sum (take (place + 1) counts)
    = sum_by-cons (λ (x : ℕ). x) count (take (place + 1) counts) in
    record {
      there = omega (arith, lies.there);
      before = rw one (omega (arith, first, lies.before));
      upto = rw two (omega (arith, second, lies.upto));
    }

reached-here : (rank count : ℕ) (counts : List ℕ) → rank ≤ count → reached rank (count ∷ counts) ≡ 0
reached-here rank count counts le = grind (arith, nat_tests)

reached-later : (rank count : ℕ) (counts : List ℕ) → count < rank → reached rank (count ∷ counts) ≡ reached (rank - count) counts + 1
reached-later rank count counts past = grind (arith, nat_tests)

pub lies_at : (rank : ℕ) (counts : List ℕ) → 0 < rank → rank ≤ sum counts → Lies rank counts (reached rank counts)
lies_at rank [] some le = absurd (omega arith)
lies_at rank (count ∷ counts) some le = elim (cases_lt count rank) [
  | inl past ↦
      let rest : rank - count ≤ sum counts = omega (arith, sum_by-cons (λ (x : ℕ). x) count counts) in
      rw (reached-later rank count counts past) (later_lies rank count counts (reached (rank - count) counts) past (lies_at (rank - count) counts (omega arith) rest))
  | inr within ↦ rw (reached-here rank count counts within) (here_lies rank count counts some within)
]

-- a rank of some times is one of them
pub rank_some : (total percent : ℕ) → 0 < total → 1 ≤ percent → 0 < rank_of total percent
rank_some total percent some least =
    let product : total * 1 ≤ total * percent = mul-le-mul_left total least in
    omega (arith, product)

pub rank_within : (total percent : ℕ) → percent ≤ 100 → rank_of total percent ≤ total
rank_within total percent most =
    let product : total * percent ≤ total * 100 = mul-le-mul_left total most in
    omega (arith, product)

-- the bucket of a percentile is there
pub percentile_there : (counts : List ℕ) (percent : ℕ) → sum counts ≢ 0 → 1 ≤ percent → percent ≤ 100
    → reached (rank_of (sum counts) percent) counts < length counts
percentile_there counts percent some least most =
    (lies_at (rank_of (sum counts) percent) counts (rank_some (sum counts) percent (omega arith) least) (rank_within (sum counts) percent most)).there

-- the time of the percentile's rank lies in its bucket
lies_in : (counts times : List ℕ) (percent bucket last : ℕ) → AreCounts counts times → Lies (rank_of (length times) percent) counts bucket
    → last + 1 ≡ low_of (bucket + 1) → IsPercentile times percent last
lies_in counts times percent bucket last are lies is =
    let there : bucket < BUCKETS = omega (arith, are.length_is, lies.there) in
    let upto = sum_front counts times are (bucket + 1) (omega arith) in
    let front = sum_front counts times are bucket (omega arith) in
    let same : count_by (λ time. nat_lt time (low_of (bucket + 1))) times ≡ count_by (λ time. nat_le time last) times
    = count_by-same (λ time. nat_lt time (low_of (bucket + 1))) (λ time. nat_le time last) times (λ time. tests time) in
    record {
      bucket = bucket;
      last_is = is;
      reached_by = omega (arith, lies.upto, upto, same);
      not_before = omega (arith, lies.before, front);
    }
  where
    tests : (time : ℕ) → nat_lt time (low_of (bucket + 1)) ≡ nat_le time last
    tests time = rw (sym is) (by time last)
      where
        by : (time last : ℕ) → nat_lt time (last + 1) ≡ nat_le time last
        by time last = grind (arith, nat_tests)

-- what a percentile says of the times that were counted
of_some : (counts times : List ℕ) (percent : ℕ) → AreCounts counts times → sum counts ≢ 0 → 1 ≤ percent → percent ≤ 100
    → IsPercentile times percent (low_of (reached (rank_of (sum counts) percent) counts + 1) - 1)
of_some counts times percent are some least most =
    let total : sum counts ≡ length times = sum_all counts times are in
    let lies : Lies (rank_of (sum counts) percent) counts (reached (rank_of (sum counts) percent) counts)
    = lies_at (rank_of (sum counts) percent) counts (rank_some (sum counts) percent (omega arith) least) (rank_within (sum counts) percent most) in
    let positive : 1 ≤ low_of (reached (rank_of (sum counts) percent) counts + 1)
    = omega (arith, low_small 1 (omega arith), low_le 1 (reached (rank_of (sum counts) percent) counts + 1) (omega arith)) in
    lies_in counts times percent (reached (rank_of (sum counts) percent) counts) (low_of (reached (rank_of (sum counts) percent) counts + 1) - 1) are
    (subst (λ (n : ℕ). Lies (rank_of n percent) counts (reached (rank_of (sum counts) percent) counts)) total lies) (omega arith)

percentile-some : (counts : List ℕ) (percent : ℕ) → sum counts ≢ 0
    → percentile_of counts percent ≡ Some (low_of (reached (rank_of (sum counts) percent) counts + 1) - 1)
percentile-some counts percent some = by (sum counts) some (Some (low_of (reached (rank_of (sum counts) percent) counts + 1) - 1))
  where
    by : (n : ℕ) → n ≢ 0 → (x : Option ℕ) → cond (n == 0) None x ≡ x
    by n some x = grind (arith, nat_tests)

pub percentile-none : (counts : List ℕ) (percent : ℕ) → sum counts ≡ 0 → percentile_of counts percent ≡ None
percentile-none counts percent none = rw none refl

pub percentile_means : (counts times : List ℕ) (percent : ℕ) → 1 ≤ percent → percent ≤ 100 → AreCounts counts times
    → IfSome (percentile_of counts percent) (λ last. IsPercentile times percent last)
percentile_means counts times percent least most are = elim (cases_lt 0 (sum counts)) [
  | inl some ↦ rw (percentile-some counts percent (omega arith)) (of_some counts times percent are (omega arith) least most)
  | inr none ↦ rw (percentile-none counts percent (omega arith)) tt
]

pub none_means : (counts times : List ℕ) (percent : ℕ) → AreCounts counts times → percentile_of counts percent ≡ None → times ≡ []
none_means counts times percent are is = elim (cases_lt 0 (sum counts)) [
  | inl some ↦ let there = percentile-some counts percent (omega arith) in cc
  | inr none ↦ empty times (omega (arith, sum_all counts times are))
]
  where
    empty : (xs : List ℕ) → length xs ≡ 0 → xs ≡ []
    empty [] is = refl
    empty (x ∷ xs) is = absurd (omega arith)

-- no times have no counts
pub none_counted : AreCounts no_counts []
unfolding no_counts
none_counted = record {
  length_is = length-replicate {A = ℕ} BUCKETS 0;
  each = (λ bucket there. get_or-replicate {A = ℕ} BUCKETS bucket 0 0 there);
  fit = All-nil (λ time. time < 2 ^ 64);
}

-- a time lies in no other bucket
in_one : (time a b : ℕ) → low_of a ≤ time → time < low_of (a + 1) → a ≢ b → is_in b time ≡ false
in_one time a b from below other = elim (cases_lt a b) [
  | inl later ↦ before (low_of b) (low_of (b + 1)) time (omega (arith, low_le (a + 1) b (omega arith)))
  | inr earlier ↦ behind (low_of b) (low_of (b + 1)) time (omega (arith, low_le (b + 1) a (omega arith)))
]
  where
    before : (low high time : ℕ) → time < low → (nat_le low time && nat_lt time high) ≡ false
    before low high time is = grind (arith, nat_tests)

    behind : (low high time : ℕ) → high ≤ time → (nat_le low time && nat_lt time high) ≡ false
    behind low high time is = grind (arith, nat_tests)

in_own : (time b : ℕ) → HasBucket time b → is_in b time ≡ true
in_own time b has = by (low_of b) (low_of (b + 1)) time has.from has.below
  where
    by : (low high time : ℕ) → low ≤ time → time < high → (nat_le low time && nat_lt time high) ≡ true
    by low high time from below = grind (arith, nat_tests)

-- one time more
more_each : (counts times : List ℕ) (time own : ℕ) → AreCounts counts times → length times < 2 ^ 64 - 1 → HasBucket time own
    → (bucket : ℕ) → bucket < BUCKETS → get_or (counted_at counts own) bucket 0 ≡ count_by (is_in bucket) (times ++ time ∷ [])
more_each counts times time own are few has bucket there = elim (cases_eq own bucket) [
  | inl same ↦
      let within : own < length counts = omega (arith, are.length_is, has.there) in
      let mine : is_in own time ≡ true = in_own time own has in
      let more = count_by-more (is_in own) times time in
      let least : count_by (is_in own) times ≤ length times = count_by-le-length (is_in own) times in
      let before : get_or counts own 0 ≡ count_by (is_in own) times = are.each own has.there in
      let now : get_or (counted_at counts own) own 0 ≡ min (get_or counts own 0 + 1) (2 ^ 64 - 1)
      = get_or-set_same counts own (min (get_or counts own 0 + 1) (2 ^ 64 - 1)) 0 within in
      let after : count_by (is_in own) (times ++ time ∷ []) ≡ count_by (is_in own) times + 1 = rw mine at more in
      rw (sym same) (omega (arith, least, before, now, after))
  | inr other ↦
      let mine : is_in bucket time ≡ false = in_one time own bucket has.from has.below other in
      let more = count_by-more (is_in bucket) times time in
      let apart : bucket ≢ own = (λ is. other (sym is)) in
      let before : get_or counts bucket 0 ≡ count_by (is_in bucket) times = are.each bucket there in
      let now : get_or (counted_at counts own) bucket 0 ≡ get_or counts bucket 0
      = get_or-set_other counts own bucket (min (get_or counts own 0 + 1) (2 ^ 64 - 1)) 0 apart in
      let after : count_by (is_in bucket) (times ++ time ∷ []) ≡ count_by (is_in bucket) times + 0 = rw mine at more in
      omega (arith, before, now, after)
]

pub one_more : (counts times : List ℕ) (time : ℕ) → time < 2 ^ 64 → AreCounts counts times → length times < 2 ^ 64 - 1
    → AreCounts (counted_at counts (bucket_of time)) (times ++ time ∷ [])
one_more counts times time fits are few = record {
  length_is = length-set counts (bucket_of time) (more (get_or counts (bucket_of time) 0)) ∙ are.length_is;
  each = more_each counts times time (bucket_of time) are few (has_bucket time fits);
  fit = All-append (λ t. t < 2 ^ 64) times (time ∷ []) are.fit (alone time fits);
}
  where
    alone : (time : ℕ) → time < 2 ^ 64 → All (λ t. t < 2 ^ 64) (time ∷ [])
    alone time fits zero d within = fits
    alone time fits (suc k) d within = absurd (omega arith)
