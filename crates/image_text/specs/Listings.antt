-- What a listing of an image is.
use Rattle.std.specs.Prelude.{◌≡◌, ℕ, ◌+◌, ◌/◌, ◌%◌, List, [], ◌∷◌, ◌++◌}
use Rattle.std.specs.Prelude.{Option, Some, None, All, length, codes, decimal}
use Rattle.std.specs.List.{flat_map, range_with_len, slice_index_or}
use Rattle.tab_asm.specs.Formats.{Instruction, BeginRow, TestGuard, RunAction, GoTo, NoRow, code_of, octets_of}
use Rattle.tab_asm.specs.Images.{Image}
use Rattle.tab_load.specs.Code.{Fits}
use Rattle.tab_load.specs.Faults.{format_of}
use Rattle.tab_load.specs.Loading.{Loaded}
use Rattle.tab_load.specs.declared.counts.Format.{Format}
use Rattle.tab_step.specs.Moves.{name_at}

-- `Wait CCA-I 0`: the state and the kind of events of an entry, and its offset; nothing where it has none
abbrev pub offset_text : Image → ℕ → Option ℕ → List ℕ
offset_text image number None = []
offset_text image number (Some offset) =
    name_at image.states (number / length image.kinds) ++ codes " " ++ name_at image.kinds (number % length image.kinds)
    ++ codes " "
    ++ decimal offset ++ codes "\n"

-- the entry of that number: state by state, and in it kind by kind
abbrev pub entry_text : Image → ℕ → List ℕ
entry_text image number = offset_text image number (slice_index_or image.entries number None)

-- the entries in order
abbrev pub entries_text : Image → List ℕ
entries_text image = flat_map (entry_text image) (range_with_len 0 (length image.entries))

-- `GUARD mine 19`: an operation, and its operands, by name but for rows and offsets
abbrev pub instruction_text : Image → Instruction → List ℕ
instruction_text image (BeginRow row) = codes "ROW " ++ decimal row
instruction_text image (TestGuard guard otherwise) =
    codes "GUARD " ++ name_at image.guards guard ++ codes " " ++ decimal otherwise
instruction_text image (RunAction action) = codes "ACT " ++ name_at image.actions action
instruction_text image (GoTo state) = codes "GOTO " ++ name_at image.states state
instruction_text image NoRow = codes "NONE"

-- `3 GUARD mine 19`: the line of an instruction at that offset
abbrev pub line_text : Image → ℕ → Instruction → List ℕ
line_text image at instruction = decimal at ++ codes " " ++ instruction_text image instruction ++ codes "\n"

-- the lines of instructions, the first of which begins at that offset, each behind the one before
abbrev pub code_text : Format → Image → ℕ → List Instruction → List ℕ
code_text format image at [] = []
code_text format image at (instruction ∷ rest) =
    line_text image at instruction ++ code_text format image (at + length (octets_of (format_of format) instruction))
    rest

-- these are the instructions of a program's code: their octets are its octets, and their operands are what the octets
-- hold
pub record AreInstructions (program : Loaded) (instructions : List Instruction) : Type 0 where
  pub whole : program.image.code ≡ code_of (format_of program.format) instructions
  pub fit : All (Fits program.format) instructions

-- the lines of a program's instructions stand behind a text
pub record IsCodeListing (program : Loaded) (before text : List ℕ) : Type 0 where
  pub instructions : List Instruction
  pub are : AreInstructions program instructions
  pub printed : text ≡ before ++ code_text program.format program.image 0 instructions

-- a program's entries are listed, and then its instructions
abbrev pub IsListing : Loaded → List ℕ → Type 0
IsListing program text = IsCodeListing program (entries_text program.image) text
