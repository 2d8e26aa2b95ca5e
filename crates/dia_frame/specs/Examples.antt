-- Headers with known answers at a limit of 4,096 octets:
-- wrong definitions of a fault and of the room of a rest don't pass these lines.
use Rattle.std.specs.Prelude.{◌≡◌, [], ◌∷◌, Some, None, refl}
use Rattle.dia_frame.specs.declared.fault.FrameFault.TheVariants.{Version, Length}
use Rattle.dia_frame.specs.Frames.{message_length, fault_of}
use Rattle.dia_frame.specs.Whole.{room_of}

-- a Device-Watchdog-Request of 56 octets
pub watchdog_request : message_length (1 ∷ 0 ∷ 0 ∷ 0x38 ∷ 0x80 ∷ 0 ∷ 1 ∷ 0x18 ∷ []) ≡ 56
watchdog_request = refl

-- version 2 shows with its octet alone
pub version_2 : fault_of 4096 (2 ∷ []) ≡ Some Version
version_2 = refl

-- a length shows with its last octet
pub three_octets : fault_of 4096 (1 ∷ 0 ∷ 0 ∷ []) ≡ None
three_octets = refl

pub length_16 : fault_of 4096 (1 ∷ 0 ∷ 0 ∷ 16 ∷ []) ≡ Some Length
length_16 = refl

pub length_20 : fault_of 4096 (1 ∷ 0 ∷ 0 ∷ 20 ∷ []) ≡ None
length_20 = refl

pub length_22 : fault_of 4096 (1 ∷ 0 ∷ 0 ∷ 22 ∷ []) ≡ Some Length
length_22 = refl

pub length_4096 : fault_of 4096 (1 ∷ 0 ∷ 16 ∷ 0 ∷ []) ≡ None
length_4096 = refl

pub length_4100 : fault_of 4096 (1 ∷ 0 ∷ 16 ∷ 4 ∷ []) ≡ Some Length
length_4100 = refl

-- a rest has room for four octets from its first one on
pub room_of_none : room_of 4096 [] ≡ 0
room_of_none = refl

pub room_of_one : room_of 4096 (1 ∷ []) ≡ 4
room_of_one = refl

pub room_of_three : room_of 4096 (1 ∷ 0 ∷ 0 ∷ []) ≡ 4
room_of_three = refl

-- and for the whole message from its fourth one on
pub room_of_four : room_of 4096 (1 ∷ 0 ∷ 0 ∷ 0x38 ∷ []) ≡ 56
room_of_four = refl

pub room_of_nine : room_of 4096 (1 ∷ 0 ∷ 0 ∷ 0x38 ∷ 0x80 ∷ 0 ∷ 1 ∷ 0x18 ∷ 0 ∷ []) ≡ 56
room_of_nine = refl

-- and none for one whose header is wrong
pub room_of_fault : room_of 4096 (1 ∷ 0 ∷ 16 ∷ 4 ∷ []) ≡ 0
room_of_fault = refl
