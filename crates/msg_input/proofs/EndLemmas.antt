-- Why an end holds of a source.
use Rattle.std.proofs.Common.{◌≡◌, ◌<◌, ℕ, List, [], length, take, Option, Some, None, Ok}
use Rattle.base_device.specs.Devices.{Gives}
use Rattle.std.specs.Io.KnownBytes.{Consumes, IsAtEnd}
use Rattle.msg_input.specs.Ends.{EndsBy, IsLast}
use Rattle.msg_input.specs.declared.ends.End.{End}
use Rattle.msg_input.specs.declared.ends.End.TheVariants.{Whole, Refused, ReadFailed, TooManyReads}

-- an end with the end of the input, where no read failed
pub EndsBy-last : {I : Type 0} (remaining : I → Option (List ℕ)) (reads failures : I → ℕ) (old new : I) (end : End)
    → IsAtEnd (remaining new) → failures new ≡ failures old → IsLast end → EndsBy remaining reads failures old new end
EndsBy-last remaining reads failures old new Whole at_end sound last = (at_end, sound)
EndsBy-last remaining reads failures old new (Refused why) at_end sound last = sound
EndsBy-last remaining reads failures old new ReadFailed at_end sound last = absurd last
EndsBy-last remaining reads failures old new TooManyReads at_end sound last = absurd last

-- a read of no octets into a buffer with room found the end
pub IsAtEnd-given : (E : Type 0) (old new : Option (List ℕ)) (given : Option ℕ) (count : ℕ) (buffer : List ℕ)
    → given ≡ Some count → count ≡ 0 → 0 < length buffer → Gives {E = E} old new (Ok given) buffer → IsAtEnd new
IsAtEnd-given E old new (Some n) count buffer is none room gives = let same : n ≡ 0 = cc in gives.1 same room
IsAtEnd-given E old new None count buffer is none room gives = absurd (cc)

-- a read of some octets took these
pub Consumes-given : (E : Type 0) (old new : Option (List ℕ)) (given : Option ℕ) (count : ℕ) (buffer : List ℕ)
    → given ≡ Some count → Gives {E = E} old new (Ok given) buffer → Consumes old new (take count buffer)
Consumes-given E old new (Some n) count buffer is gives = let same : n ≡ count = cc in rw same at gives.0
Consumes-given E old new None count buffer is gives = absurd (cc)

-- a read of no octets took none
pub Consumes-none : (E : Type 0) (old new : Option (List ℕ)) (given : Option ℕ) (count : ℕ) (buffer : List ℕ)
    → given ≡ Some count → count ≡ 0 → Gives {E = E} old new (Ok given) buffer → Consumes old new []
Consumes-none E old new given count buffer is none gives = rw none at (Consumes-given E old new given count buffer is gives)
