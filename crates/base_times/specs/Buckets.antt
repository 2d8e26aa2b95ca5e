-- Which times are counted together.
use Rattle.std.specs.Prelude.{ℕ, ◌+◌, ◌-◌, ◌*◌, ◌/◌, ◌%◌, ◌^◌, ◌<◌, ◌≤◌, ◌&&◌, Bool, max, nat_le, nat_lt, if◌then◌else◌}
use Rattle.std.specs.Int.{leading_zeros, w64}
use Rattle.base_times.specs.declared.bucket.TheConstants.{BUCKETS}

-- the least time of a bucket: each time below 16 has a bucket of its own, and from each power of two to the next there
-- are 16 of one width
unfoldable pub low_of : ℕ → ℕ
low_of bucket = if nat_lt bucket 16 then bucket else (16 + bucket % 16) * 2 ^ (bucket / 16 - 1)

-- a time lies in a bucket: it isn't below its least, and below that of the next one
abbrev pub is_in : ℕ → ℕ → Bool
is_in bucket time = nat_le (low_of bucket) time && nat_lt time (low_of (bucket + 1))

-- the greatest power of two that isn't above a time is 2^top
abbrev pub top_of : ℕ → ℕ
top_of time = 63 - leading_zeros w64 time

-- the bucket that counts a time of 64 bits
unfoldable pub bucket_of : ℕ → ℕ
bucket_of time = if nat_lt time 16 then time else (top_of time - 4) * 16 + time / 2 ^ (top_of time - 4)

-- a time lies in a bucket of those that there are, which has one time or is no wider than a sixteenth of its least
pub record HasBucket (time bucket : ℕ) : Type 0 where
  pub there : bucket < BUCKETS
  pub from : low_of bucket ≤ time
  pub below : time < low_of (bucket + 1)
  pub narrow : (low_of (bucket + 1) - low_of bucket) * 16 ≤ max 16 (low_of bucket)

-- each time lies in the bucket that counts it
abbrev pub EachHasBucket : Type 0
EachHasBucket = (time : ℕ) → time < 2 ^ 64 → HasBucket time (bucket_of time)
