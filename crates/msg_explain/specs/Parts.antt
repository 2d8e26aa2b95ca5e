-- The AVPs of a message with where they lie, groups opened, in the order of the octets.
use Rattle.std.specs.Prelude.{ℕ, zero, suc, ◌+◌, ◌-◌, ◌%◌, ◌^◌, List, [], ◌∷◌, length, drop, Result}
use Rattle.std.specs.Prelude.{Ok, Err, if◌then◌else◌}
use Rattle.std.specs.List.{flat_map}
use Rattle.byteorder.specs.Endian.{big_number}
use Rattle.dia_avp.specs.declared.avp.Avp.{Avp}
use Rattle.dia_avp.specs.declared.fault.FaultCode.{FaultCode}
use Rattle.dia_avp.specs.Reading.{avp_at}
use Rattle.dia_dict.specs.declared.definition.Definition.{Definition}
use Rattle.dia_dict.specs.Dictionary.{definition_of}
use Rattle.dia_tree.specs.Kind.{is_grouped}
use Rattle.msg_explain.specs.declared.parts.Part.{Part}

-- an AVP in a message: where it begins, how many levels of groups it may still open,
-- and the octets from it to the end of its list
pub record Piece : Type 0 where
  pub place : ℕ
  pub room : ℕ
  pub octets : List ℕ

-- a part as a value
abbrev pub seen_part : Part → Piece
seen_part p = record { place = p.place; room = p.room; octets = p.octets.now }

-- the AVP Length that stands at the front, 24 bits behind the flags
abbrev pub length_at : List ℕ → ℕ
length_at octets = big_number 4 (drop 4 octets) % 2 ^ 24

-- what is left of octets from each of at most so many AVPs on; where one is broken it is the last
unfoldable pub starts_in : ℕ → List ℕ → List (List ℕ)
starts_in zero octets = []
starts_in (suc n) [] = []
starts_in (suc n) (octet ∷ octets) =
    (octet ∷ octets) ∷ elim (avp_at (octet ∷ octets)) [ Ok x ↦ starts_in n x.1 | Err code ↦ [] ]

-- what is left of octets from each AVP on
abbrev pub starts : List ℕ → List (List ℕ)
starts octets = starts_in (length octets) octets

-- the parts inside the AVP at the front, where it is a group: its data ends where the AVP does
abbrev pub inner_of : (inside : ℕ → List ℕ → List Piece)
    → List Definition → ℕ → List ℕ → Result (Avp × List ℕ) FaultCode → List Piece
inner_of inside definitions place octets (Ok x) =
    if is_grouped (definition_of definitions x.0.code x.0.vendor)
    then inside (place + length_at octets) x.0.octets else []
inner_of inside definitions place octets (Err code) = []

-- the part at the front of octets that end at a place, and those inside it
abbrev pub with_inner : (inside : ℕ → List ℕ → List Piece) → List Definition → ℕ → ℕ → List ℕ → List Piece
with_inner inside definitions room end octets =
    record { place = end - length octets; room = room; octets = octets }
    ∷ inner_of inside definitions (end - length octets) octets (avp_at octets)

-- no part, where no group is opened
abbrev pub no_parts : ℕ → List ℕ → List Piece
no_parts end octets = []

-- the parts of octets that end at a place, each with those inside it behind it; so many levels of groups are opened
unfoldable pub parts : List Definition → ℕ → ℕ → List ℕ → List Piece
parts definitions zero end octets = flat_map (with_inner no_parts definitions zero end) (starts octets)
parts definitions (suc room) end octets =
    flat_map (with_inner (parts definitions room) definitions (suc room) end) (starts octets)

-- the parts of a message, behind its header of 20 octets
abbrev pub message_parts : List Definition → List ℕ → List Piece
message_parts definitions octets = parts definitions 4 (length octets) (drop 20 octets)
