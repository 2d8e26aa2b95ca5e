-- Which IPv4 address a text is.
use Rattle.std.specs.Prelude.{ℕ, ◌==◌, ◌&&◌, nat_lt, Bool, List, [], ◌∷◌, Option, Some, None}
use Rattle.std.specs.Prelude.{length, slice_index, if◌then◌else◌}
use Rattle.base_text.specs.Numbers.{number_of}
use Rattle.text_parts.specs.Pieces.{pieces_in}

-- a zero in front of another character
abbrev pub is_padded : List ℕ → Bool
is_padded word = nat_lt 1 (length word) && (slice_index word 0 == 48)

abbrev pub octet : Option ℕ → Option ℕ
octet None = None
octet (Some number) = if nat_lt number 256 then Some number else None

-- a number below 256, without a zero in front of others
unfoldable pub part_of : List ℕ → Option ℕ
part_of word = if is_padded word then None else octet (number_of word)

abbrev pub before : Option ℕ → Option (List ℕ) → Option (List ℕ)
before None octets = None
before (Some octet) None = None
before (Some octet) (Some octets) = Some (octet ∷ octets)

-- the octets of all pieces, where each is a number below 256
abbrev pub octets_of : List (List ℕ) → Option (List ℕ)
octets_of [] = Some []
octets_of (piece ∷ pieces) = before (part_of piece) (octets_of pieces)

-- the address: four numbers below 256 between dots
unfoldable pub address_of : List ℕ → Option (List ℕ)
address_of text = if length (pieces_in 46 text) == 4 then octets_of (pieces_in 46 text) else None
