-- Which messages a stream of octets holds (RFC 6733 section 3).
use Rattle.std.specs.Prelude.{◌≡◌, ◌≤◌, ℕ, ◌%◌, Bool, not, ◌==◌, ◌||◌, nat_lt, List, [], ◌∷◌, ◌++◌, length, slice_index}
use Rattle.std.specs.Prelude.{drop, Option, Some, None, All, if◌then◌else◌}
use Rattle.std.specs.List.{flat_map}
use Rattle.byteorder.specs.Endian.{big_number}
use Rattle.dia_frame.specs.declared.fault.FrameFault.{FrameFault}
use Rattle.dia_frame.specs.declared.fault.FrameFault.TheVariants.{Version, Length}

-- the Message Length: the three octets after the version, in network byte order (RFC 6733 section 3)
abbrev pub message_length : List ℕ → ℕ
message_length octets = big_number 3 (drop 1 octets)

-- version 1, and its own length, which is at least a header's 20 octets, a multiple of 4 and at most the limit
pub record IsMessage (limit : ℕ) (octets : List ℕ) : Type 0 where
  pub version : slice_index octets 0 ≡ 1
  pub own : message_length octets ≡ length octets
  pub least : 20 ≤ length octets
  pub fours : length octets % 4 ≡ 0
  pub most : length octets ≤ limit

-- the messages joined, in order
abbrev pub joined : List (List ℕ) → List ℕ
joined messages = flat_map (λ m. m) messages

-- The stream is these messages joined and then the rest, which begins with no message.
pub record Frames (stream : List ℕ) (limit : ℕ) (messages : List (List ℕ)) (rest : List ℕ) : Type 0 where
  pub parts : stream ≡ joined messages ++ rest
  pub each : All (IsMessage limit) messages
  pub no_more : (m after : List ℕ) → IsMessage limit m → rest ≡ m ++ after → ⊥

-- a length that no message has: below 20, no multiple of 4 or over the limit
abbrev pub is_bad_length : ℕ → ℕ → Bool
is_bad_length limit len = nat_lt len 20 || not (len % 4 == 0) || nat_lt limit len

-- The fault that a rest shows: its first octet isn't 1, or else its first four octets have a bad length.
abbrev pub fault_of : ℕ → List ℕ → Option FrameFault
fault_of limit [] = None
fault_of limit (version ∷ octets) =
    if not (version == 1) then Some Version
    else if nat_lt (length octets) 3 then None
    else if is_bad_length limit (big_number 3 octets) then Some Length
    else None
