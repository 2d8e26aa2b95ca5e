-- What a call of a device changes in its counters, and why a read or a write fault comes.
use Rattle.std.specs.Prelude.{◌≡◌, ◌<◌, ◌≤◌, ℕ, ◌+◌, ◌-◌, ◌^◌, ◌==◌, min, List, length, take, Option, Some, None}
use Rattle.std.specs.Prelude.{Result, Ok, Err, if◌then◌else◌, ◌⊎◌}
use Rattle.std.specs.Io.KnownBytes.{Appends, Consumes, Keeps, IsAtEnd}
use Rattle.base_device.specs.declared.status.Status.{Status}
use Rattle.base_device.specs.declared.status.Status.TheVariants.{Fault}

-- the failures of a device after one more call
abbrev pub failures_after : {T E : Type 0} → Result T E → ℕ → ℕ
failures_after (Ok answer) failures = failures
failures_after (Err why) failures = failures + 1

-- a count after one more, which stops at 2^64 - 1
abbrev pub counted : ℕ → ℕ
counted count = min (count + 1) (2 ^ 64 - 1)

-- the reads that would have had to wait, after one more read: only one that gave nothing, and that is no end,
-- may be one
abbrev pub Blocks : {E : Type 0} → Result (Option ℕ) E → (old new : ℕ) → Type 0
Blocks (Ok (Some count)) old new = new ≡ old
Blocks (Ok None) old new = (new ≡ old) ⊎ (new ≡ counted old)
Blocks (Err why) old new = new ≡ old

-- the writes that would have had to wait, after one more write: only one that took nothing may be one
abbrev pub BlocksIdle : {E : Type 0} → Result ℕ E → (old new : ℕ) → Type 0
BlocksIdle (Ok taken) old new = (new ≡ old) ⊎ ((taken ≡ 0) × (new ≡ counted old))
BlocksIdle (Err why) old new = new ≡ old

-- the writes in a row that took nothing, after one more write
abbrev pub idle_after : {E : Type 0} → Result ℕ E → ℕ → ℕ
idle_after (Ok taken) idle = if taken == 0 then idle + 1 else 0
idle_after (Err why) idle = idle

-- a count of octets lies within the buffer that was handed in
abbrev pub Within : {E : Type 0} → Result (Option ℕ) E → List ℕ → Type 0
Within (Ok (Some count)) buffer = count ≤ length buffer
Within (Ok None) buffer = Unit {0}
Within (Err why) buffer = Unit {0}

-- a read gives the front of what is left, and no octets only where none is left
abbrev pub Gives : {E : Type 0} → Option (List ℕ) → Option (List ℕ) → Result (Option ℕ) E → List ℕ → Type 0
Gives old new (Ok (Some count)) buffer = Consumes old new (take count buffer)
    × (count ≡ 0 → 0 < length buffer → IsAtEnd new)
Gives old new (Ok None) buffer = Keeps old new
Gives old new (Err why) buffer = Keeps old new

-- A write took this many octets from the front, at least one, and no call failed.
pub record IsTaken
    {O : Type 0} (contents : O → Option (List ℕ)) (failures idle : O → ℕ) (old new : O) (octets : List ℕ)
    (count : ℕ) : Type 0 where
  pub some : 0 < count
  pub within : count ≤ length octets
  pub appended : Appends (contents old) (contents new) (take count octets)
  pub sound : failures new ≡ failures old
  pub busy : idle new ≡ 0

-- All octets were taken, and no call failed.
pub record TakesWhole
    {O : Type 0} (contents : O → Option (List ℕ)) (failures idle : O → ℕ) (old new : O) (octets : List ℕ) : Type 0 where
  pub appended : Appends (contents old) (contents new) octets
  pub sound : failures new ≡ failures old
  pub busy : idle new ≡ 0

-- A write fault has a cause: one call failed, or none did and the last 1,048,576 writes in a row took nothing.
abbrev pub HasWriteCause : {O : Type 0} → (failures idle : O → ℕ) → (old new : O) → Type 0
HasWriteCause failures idle old new =
    (failures new ≡ failures old + 1) ⊎ ((failures new ≡ failures old) × (idle new ≡ 1048576))

-- A read fault has a cause: one call failed, or none did and at least 1,048,576 reads were made.
abbrev pub HasReadCause : {I : Type 0} → (reads failures : I → ℕ) → (old new : I) → Type 0
HasReadCause reads failures old new =
    (failures new ≡ failures old + 1) ⊎ ((failures new ≡ failures old) × (reads old + 1048576 ≤ reads new))

-- A text was taken whole and the status is this one, or a write fault came and is the status.
abbrev pub Tells : {O : Type 0} → (contents : O → Option (List ℕ)) → (failures idle : O → ℕ) → (old new : O) → List ℕ
    → (status answer : Status) → Type 0
Tells contents failures idle old new text status answer =
    (TakesWhole contents failures idle old new text × (answer ≡ status))
    ⊎ (HasWriteCause failures idle old new × (answer ≡ Fault))

-- One of the devices failed.
abbrev pub HasFailed : {I O : Type 0} → (I → ℕ) → (O → ℕ) → (I → I → O → O → Type 0)
HasFailed read_failures write_failures source source' sink sink' =
    (read_failures source < read_failures source') ⊎ (write_failures sink < write_failures sink')

-- Of a run: a fault comes only where a device failed or a bound was met, and a device's failure is told.
pub record IsRun
    {I O : Type 0} (reads read_failures : I → ℕ) (write_failures idle : O → ℕ) (source source' : I) (sink sink' : O)
    (status : Status) : Type 0 where
  pub cause : status ≡ Fault
      → HasReadCause reads read_failures source source' ⊎ HasWriteCause write_failures idle sink sink'
  pub told : HasFailed read_failures write_failures source source' sink sink' → status ≡ Fault
  -- no call is made after a failed one, but for the text that tells it
  pub read_once : read_failures source' ≤ read_failures source + 1
  pub write_once : write_failures sink' ≤ write_failures sink + 1
