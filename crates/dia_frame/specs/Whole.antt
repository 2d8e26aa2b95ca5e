-- The message at the front of octets, the room that a rest is given, and the rest once all whole messages are cut off.
use Rattle.std.specs.Prelude.{◌≡◌, ◌==◌, ℕ, ◌≤◌, ◌||◌, ◌&&◌, Bool, is_some, is_none, nat_lt, List, ◌++◌, length, drop}
use Rattle.std.specs.Prelude.{Option, Some, None, if◌then◌else◌}
use Rattle.dia_frame.specs.Frames.{Frames, message_length, fault_of}

-- the length of the message at the front, where all of it is there
abbrev pub whole_len : ℕ → List ℕ → Option ℕ
whole_len limit octets =
    if nat_lt (length octets) 4 || is_some (fault_of limit octets) then None
    else if nat_lt (length octets) (message_length octets) then None
    else Some (message_length octets)

-- the length in the header, where the octets of that are there
abbrev pub length_in : List ℕ → Option ℕ
length_in octets = if nat_lt (length octets) 4 then None else Some (message_length octets)

-- whether octets are a part of a message: no message is whole at the front, and no fault shows
abbrev pub is_part : ℕ → List ℕ → Bool
is_part limit octets = is_none (fault_of limit octets) && is_none (whole_len limit octets)

-- How many octets a rest is given room for: none before the first octet of a message or at a fault,
-- four until the length is known, and then the whole message.
abbrev pub room_of : ℕ → List ℕ → ℕ
room_of limit rest =
    if length rest == 0 || is_some (fault_of limit rest) then 0
    else if nat_lt (length rest) 4 then 4
    else message_length rest

-- The whole messages of the octets wait behind the others, and this is the rest.
pub record Cuts (octets : List ℕ) (limit : ℕ) (old new : List (List ℕ)) (rest : List ℕ) : Type 0 where
  pub came : List (List ℕ)
  pub waiting : new ≡ old ++ came
  pub frames : Frames octets limit came rest

-- the same, where the rest begins at `end`
abbrev pub CutsUpTo : List ℕ → ℕ → List (List ℕ) → List (List ℕ) → ℕ → Type 0
CutsUpTo octets limit old new end = (end ≤ length octets) × Cuts octets limit old new (drop end octets)
