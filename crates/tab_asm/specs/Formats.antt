-- Formats of images, and the octets of instructions.
use Rattle.std.specs.Prelude.{ℕ, List, [], ◌∷◌, codes}
use Rattle.std.specs.List.{flat_map}
use Rattle.std.specs.Int.{Width, w16, w32, to_be_bytes}

-- what the formats of images differ in: the octets that an image begins with, how wide the code's length and the
-- offsets into it are, the offset that stands for none, and how many rows there may be
pub record Format : Type 0 where
  pub magic : List ℕ
  pub width : Width
  pub no_offset : ℕ
  pub max_rows : ℕ

abbrev pub format_1 : Format
format_1 = record { magic = codes "DTI1"; width = w16; no_offset = 65535; max_rows = 512 }

abbrev pub format_2 : Format
format_2 = record { magic = codes "DTI2"; width = w32; no_offset = 4294967295; max_rows = 4096 }

-- the instructions of the code
pub data Instruction : Type 0 where
  -- begins that row anew: registers as at the start, no deeds
  BeginRow : (row : ℕ) → Instruction
  -- goes to that offset where the guard says no on the scene at the start
  TestGuard : (guard otherwise : ℕ) → Instruction
  RunAction : (action : ℕ) → Instruction
  -- ends in that state, with the row that was begun
  GoTo : (state : ℕ) → Instruction
  -- ends without a row
  NoRow : Instruction

-- the octets of an instruction: the code of its operation and its operands, big-endian
abbrev pub octets_of : Format → Instruction → List ℕ
octets_of format (BeginRow row) = 1 ∷ to_be_bytes w16 row
octets_of format (TestGuard guard otherwise) = 2 ∷ guard ∷ to_be_bytes format.width otherwise
octets_of format (RunAction action) = 3 ∷ action ∷ []
octets_of format (GoTo state) = 4 ∷ state ∷ []
octets_of format NoRow = 5 ∷ []

-- the octets of instructions, one behind the other
abbrev pub code_of : Format → List Instruction → List ℕ
code_of format instructions = flat_map (octets_of format) instructions
