-- How many times fell into each bucket, and a percentile of these.
use Rattle.std.specs.Prelude.{◌≡◌, ◌<◌, ◌≤◌, ℕ, ◌+◌, ◌-◌, ◌*◌, ◌/◌, ◌^◌, ◌==◌, All, List, [], ◌∷◌, Option, None, Some}
use Rattle.std.specs.Prelude.{count_by}
use Rattle.std.specs.Prelude.{if◌then◌else◌, length, nat_le, nat_lt, replicate, slice_index, sum}
use Rattle.base_times.specs.Buckets.{is_in, low_of}
use Rattle.base_times.specs.declared.bucket.TheConstants.{BUCKETS}

-- these are the counts of these times: of each bucket how many times lie in it
pub record AreCounts (counts times : List ℕ) : Type 0 where
  pub length_is : length counts ≡ BUCKETS
  pub each : (bucket : ℕ) → bucket < BUCKETS → slice_index counts bucket ≡ count_by (is_in bucket) times
  pub fit : All (λ time. time < 2 ^ 64) times

-- the counts of no times
unfoldable pub no_counts : List ℕ
no_counts = replicate BUCKETS 0

-- the rank of a percentile among so many times, from 1 on: that share of them, rounded up
abbrev pub rank_of : ℕ → ℕ → ℕ
rank_of total percent = (total * percent + 99) / 100

-- how many buckets come before that in which a rank lies
abbrev pub reached : ℕ → List ℕ → ℕ
reached rank [] = 0
reached rank (count ∷ counts) = if nat_le rank count then 0 else reached (rank - count) counts + 1

-- the last time of the bucket in which a percentile lies; none where there are no times
abbrev pub percentile_of : List ℕ → ℕ → Option ℕ
percentile_of counts percent =
    if sum counts == 0 then None else Some (low_of (reached (rank_of (sum counts) percent) counts + 1) - 1)

-- of these times that of the percentile's rank lies in a bucket, and this is the last time of the bucket: so many times
-- don't pass it, and fewer are below the bucket
pub record IsPercentile (times : List ℕ) (percent last : ℕ) : Type 0 where
  pub bucket : ℕ
  pub last_is : last + 1 ≡ low_of (bucket + 1)
  pub reached_by : rank_of (length times) percent ≤ count_by (λ time. nat_le time last) times
  pub not_before : count_by (λ time. nat_lt time (low_of bucket)) times < rank_of (length times) percent
