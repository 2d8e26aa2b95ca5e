-- What one read gives, and what one write takes.
use Rattle.std.specs.Prelude.{◌≡◌, ◌<◌, ◌≤◌, ◌==◌, ℕ, ◌+◌, Bool, List, [], Option, None, Some, take, if◌then◌else◌}
use Rattle.std.specs.Io.KnownBytes.{IsAtEnd}
use Rattle.bench_net.specs.declared.given.Given.{Given}
use Rattle.bench_net.specs.declared.given.Given.TheVariants.{Octets, End, Later, Again}
use Rattle.bench_net.specs.declared.given.Given.TheVariants as givens
use Rattle.bench_net.specs.declared.put.Put.{Put}
use Rattle.bench_net.specs.declared.put.Put.TheVariants.{Taken}
use Rattle.bench_net.specs.declared.put.Put.TheVariants as puts

-- octets, the end where there are none, and where nothing was given: nothing for now, or nothing in this call
abbrev pub given_by : Option ℕ → Bool → Given
given_by (Some count) has_blocked = if count == 0 then End else Octets count
given_by None has_blocked = if has_blocked then Later else Again

-- the octets that a read gave, at the front of the buffer
abbrev pub given_octets : Given → List ℕ → List ℕ
given_octets (Octets count) buffer = take count buffer
given_octets given buffer = []

-- at least one octet and no more than there is room, the end, or nothing because it would have had to wait; only a
-- failure counts as one
abbrev pub IsGiven : {I : Type 0} → (I → Option (List ℕ)) → (failures blocked : I → ℕ) → (old new : I) → ℕ → Given
    → Type 0
IsGiven remaining failures blocked old new room (Octets count) =
    (0 < count) × (count ≤ room) × (failures new ≡ failures old) × (blocked new ≡ blocked old)
IsGiven remaining failures blocked old new room End = IsAtEnd (remaining new) × (failures new ≡ failures old)
IsGiven remaining failures blocked old new room Later = (blocked new ≡ blocked old + 1) × (failures new ≡ failures old)
IsGiven remaining failures blocked old new room Again = (failures new ≡ failures old) × (blocked new ≡ blocked old)
IsGiven remaining failures blocked old new room givens.Failed = failures new ≡ failures old + 1

-- how many octets a write took
abbrev pub taken_of : Put → ℕ
taken_of (Taken count) = count
taken_of put = 0

-- some octets or none, or nothing because it would have had to wait; only a failure counts as one
abbrev pub IsPut : {O : Type 0} → (failures blocked : O → ℕ) → (old new : O) → Put → Type 0
IsPut failures blocked old new (Taken count) = (failures new ≡ failures old) × (blocked new ≡ blocked old)
IsPut failures blocked old new puts.Blocked = (blocked new ≡ blocked old + 1) × (failures new ≡ failures old)
IsPut failures blocked old new puts.Failed = failures new ≡ failures old + 1
