-- The octets of an image.
use Rattle.std.specs.Prelude.{ℕ, List, ◌∷◌, ◌++◌, length, Option, Some, None}
use Rattle.std.specs.List.{flat_map}
use Rattle.std.specs.Int.{w16, to_be_bytes}
use Rattle.tab_asm.specs.Formats.{Format}

-- what an image holds: names by number, how many rows there are, for each state and in it for each kind of events the
-- offset at which the code of its rows begins, or none, and the code
pub record Image : Type 0 where
  pub states : List (List ℕ)
  pub kinds : List (List ℕ)
  pub guards : List (List ℕ)
  pub actions : List (List ℕ)
  pub rows : ℕ
  pub entries : List (Option ℕ)
  pub code : List ℕ

-- the counts: states, kinds, guards, actions and rows, two octets each
abbrev pub counts : Image → List ℕ
counts image =
    to_be_bytes w16 (length image.states) ++ to_be_bytes w16 (length image.kinds)
    ++ to_be_bytes w16 (length image.guards)
    ++ to_be_bytes w16 (length image.actions) ++ to_be_bytes w16 image.rows

-- a name: its length in one octet, and its octets
abbrev pub name_octets : List ℕ → List ℕ
name_octets name = length name ∷ name

-- the names of states, kinds, guards and actions
abbrev pub names : Image → List ℕ
names image =
    flat_map name_octets image.states ++ flat_map name_octets image.kinds ++ flat_map name_octets image.guards
    ++ flat_map name_octets image.actions

-- an offset, or what stands for none
abbrev pub offset_octets : Format → Option ℕ → List ℕ
offset_octets format (Some offset) = to_be_bytes format.width offset
offset_octets format None = to_be_bytes format.width format.no_offset

-- the octets of an image
unfoldable pub image_octets : Format → Image → List ℕ
image_octets format image =
    format.magic ++ counts image ++ names image ++ flat_map (offset_octets format) image.entries
    ++ to_be_bytes format.width (length image.code) ++ image.code
