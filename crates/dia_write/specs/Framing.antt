-- One message by its own header, and the streams that begin with it.
use Rattle.std.specs.Prelude.{◌≡◌, ◌≤◌, ℕ, ◌%◌, List, ◌++◌, length, slice_index, drop}
use Rattle.byteorder.specs.Endian.{big_number}
use Rattle.dia_frame.specs.Frames.{Frames}
use Rattle.dia_frame.specs.Laws.{BeginsWith}

-- the octets are one message by their header: version 1, and the length is their number,
-- at least 20 and a multiple of 4
pub record IsWholeMessage (octets : List ℕ) : Type 0 where
  pub version : slice_index octets 0 ≡ 1
  pub length_is : big_number 3 (drop 1 octets) ≡ length octets
  pub has_header : 20 ≤ length octets
  pub aligned : length octets % 4 ≡ 0

-- within a limit, the octets are the first frame of every stream that begins with them,
-- and the others are the frames of what is behind
abbrev pub IsFirstFrame : List ℕ → Type 0
IsFirstFrame octets =
    (limit : ℕ) (after : List ℕ) (messages : List (List ℕ)) (rest : List ℕ)
    → length octets ≤ limit → Frames (octets ++ after) limit messages rest → BeginsWith limit octets after messages rest
