-- The code of an image: its instructions, where jumps lead, and its first fault.
use Rattle.std.specs.Prelude.{◌≡◌, ℕ, ◌+◌, ◌-◌, ◌*◌, ◌<◌, ◌≤◌, ◌==◌, ◌||◌, ◌&&◌, not, nat_lt, nat_le, Bool}
use Rattle.std.specs.Prelude.{true, false, List, [], ◌∷◌, ◌++◌, All, Option, Some, None, length, take, drop}
use Rattle.std.specs.Prelude.{replicate, option_map, is_some, map, Result, Ok, Err, ◌⊎◌, if◌then◌else◌}
use Rattle.std.specs.List.{flat_map, slice_index_or, list_any, list_all}
use Rattle.tab_asm.specs.Formats.{Instruction, BeginRow, TestGuard, RunAction, GoTo, NoRow, octets_of, code_of}
use Rattle.tab_load.specs.Faults.{format_of, width_of, code_limit, at_of}
use Rattle.tab_load.specs.declared.counts.Counts.{Counts}
use Rattle.tab_load.specs.declared.counts.Format.{Format}
use Rattle.tab_load.specs.declared.instruction.CodeInstruction.{CodeInstruction}
use Rattle.tab_load.specs.declared.instruction.CodeInstruction.TheVariants as step
use Rattle.tab_load.specs.declared.scan.Scan.{Scan}
use Rattle.tab_load.specs.declared.fault.ImageFault.{ImageFault}
use Rattle.tab_load.specs.declared.fault.LoadError.{LoadError}
use Rattle.tab_load.specs.declared.fault.LoadError.TheVariants.{Refused, NoMemory}
use Rattle.tab_load.specs.declared.fault.ImageFault.TheVariants.{Cut, Count, Offset, BackJump, OpCode, NoEnd}

-- the instruction that a step of the loader's stands for
abbrev pub instruction_of : CodeInstruction → Instruction
instruction_of (step.Begin row) = BeginRow row
instruction_of (step.Test guard otherwise) = TestGuard guard otherwise
instruction_of (step.Act action) = RunAction action
instruction_of (step.Go state) = GoTo state
instruction_of step.End = NoRow

-- the octet that instructions of a kind begin with, by which they have that many octets
abbrev pub size_of : Format → ℕ → ℕ
size_of format op = if op == 1 then 3 else if op == 2 then 2 + width_of format else if op == 5 then 1 else 2

-- an instruction fits a format: its operands are numbers that its octets can hold; an operand of one octet is that
-- octet
abbrev pub Fits : Format → Instruction → Type 0
Fits format (BeginRow row) = row < 65536
Fits format (TestGuard guard otherwise) = otherwise < code_limit format
Fits format (RunAction action) = Unit {0}
Fits format (GoTo state) = Unit {0}
Fits format NoRow = Unit {0}

-- what is wrong with octets that are to begin with an instruction: none begins with the first of them, or it is cut off
abbrev pub octets_fault : Format → List ℕ → Option ImageFault
octets_fault format octets =
    if nat_lt (slice_index_or octets 0 0) 1 || nat_lt 5 (slice_index_or octets 0 0) then Some OpCode
    else if nat_lt (length octets) (size_of format (slice_index_or octets 0 0)) then Some Cut else None

-- how many actions stand behind the row that was begun last: none where no row was begun
abbrev pub counted : Option ℕ → Instruction → Option ℕ
counted count (BeginRow row) = Some 0
counted count (TestGuard guard otherwise) = count
counted count (RunAction action) = option_map (λ n. n + 1) count
counted count (GoTo state) = count
counted count NoRow = count

abbrev pub count_behind : Option ℕ → List Instruction → Option ℕ
count_behind count [] = count
count_behind count (instruction ∷ rest) = count_behind (counted count instruction) rest

-- the operands of an instruction name what the image has
abbrev pub is_in_range : Counts → Instruction → Bool
is_in_range counts (BeginRow row) = nat_lt row counts.rows
is_in_range counts (TestGuard guard otherwise) = nat_lt guard counts.guards
is_in_range counts (RunAction action) = nat_lt action counts.actions
is_in_range counts (GoTo state) = nat_lt state counts.states
is_in_range counts NoRow = true

-- an instruction may stand behind that many actions of a row: all but two kinds want a row, and a row has at most 8
-- actions
abbrev pub is_in_row : Option ℕ → Instruction → Bool
is_in_row count (BeginRow row) = true
is_in_row count (TestGuard guard otherwise) = is_some count
is_in_row None (RunAction action) = false
is_in_row (Some n) (RunAction action) = nat_lt n 8
is_in_row count (GoTo state) = is_some count
is_in_row count NoRow = true

-- a failed guard goes on behind its test
abbrev pub is_forward : ℕ → Instruction → Bool
is_forward behind (BeginRow row) = true
is_forward behind (TestGuard guard otherwise) = nat_le behind otherwise
is_forward behind (RunAction action) = true
is_forward behind (GoTo state) = true
is_forward behind NoRow = true

-- what is wrong with an instruction that ends at that offset, behind that many actions of a row
abbrev pub instruction_fault : Counts → Option ℕ → ℕ → Instruction → Option ImageFault
instruction_fault counts count behind instruction =
    if not (is_in_range counts instruction && is_in_row count instruction) then Some Count
    else if is_forward behind instruction then None else Some BackJump

-- each of a list stands in a relation to those before it
abbrev pub EachAfter : {X : Type 0} → (List X → X → Type 0) → List X → List X → Type 0
EachAfter P before [] = Unit {0}
EachAfter P before (x ∷ rest) = P before x × EachAfter P (before ++ x ∷ []) rest

-- nothing is wrong with an instruction behind these
abbrev pub IsFine : Format → Counts → List Instruction → Instruction → Type 0
IsFine format counts before instruction =
    instruction_fault counts (count_behind None before)
    (length (code_of (format_of format) (before ++ instruction ∷ []))) instruction ≡ None

-- nothing is wrong with each of these
abbrev pub AreFine : Format → Counts → List Instruction → Type 0
AreFine format counts instructions = EachAfter (IsFine format counts) [] instructions

-- whether a jump may lead to an instruction: to the begin of a row, or to the end without one
abbrev pub is_landing : Instruction → Bool
is_landing (BeginRow row) = true
is_landing (TestGuard guard otherwise) = false
is_landing (RunAction action) = false
is_landing (GoTo state) = false
is_landing NoRow = true

-- for each octet of an instruction of that size whether a jump may lead there: to the first one at most
abbrev pub marks_of : ℕ → Instruction → List Bool
marks_of size instruction = is_landing instruction ∷ replicate (size - 1) false

-- for each octet of the code whether a jump may lead there
abbrev pub landings : Format → List Instruction → List Bool
landings format instructions =
    flat_map (λ instruction. marks_of (length (octets_of (format_of format) instruction)) instruction) instructions

-- an error is a fault in that relation to the image, or memory was wanting
abbrev pub IsRefusal : (ℕ → ImageFault → Type 0) → LoadError → Type 0
IsRefusal Wrong (Refused fault) = Wrong fault.at fault.code
IsRefusal Wrong NoMemory = Unit {0}

-- no other fault is in that relation to the image, and it is in no other place
abbrev pub IsOnly : (ℕ → ImageFault → Type 0) → ℕ → ImageFault → Type 0
IsOnly Wrong at fault = (other_at : ℕ) (other : ImageFault) → Wrong other_at other → (other_at ≡ at) × (other ≡ fault)

-- what holds where memory was wanting
abbrev pub AtNoMemory : Type 0 → LoadError → Type 0
AtNoMemory Holds NoMemory = Holds
AtNoMemory Holds (Refused fault) = Unit {0}

-- what holds unless an image is refused for a fault: it was read so far, or memory was wanting
abbrev pub UnlessRefused : {T : Type 0} → Result T LoadError → Type 0 → Type 0
UnlessRefused (Ok value) Holds = Holds
UnlessRefused (Err error) Holds = AtNoMemory Holds error

-- the instructions that steps stand for
abbrev pub instructions_of : List CodeInstruction → List Instruction
instructions_of steps = map instruction_of steps

-- those that were read
abbrev pub read_in : Scan → List Instruction
read_in scan = instructions_of scan.steps.items

-- an instruction stands at an offset of the code: its octets begin there, by the first of them
abbrev pub StandsAt : Format → List ℕ → ℕ → Instruction → Type 0
StandsAt format code at instruction =
    drop at code
    ≡ octets_of (format_of format) instruction ++ drop (size_of format (slice_index_or code at 0)) (drop at code)

-- where it ends
abbrev pub end_at : Format → List ℕ → ℕ → ℕ
end_at format code at = at + size_of format (slice_index_or code at 0)

-- nothing is wrong with an instruction there, behind that many actions of a row
abbrev pub IsStepFine : Format → Counts → Option ℕ → List ℕ → ℕ → Instruction → Type 0
IsStepFine format counts count code at instruction =
    instruction_fault counts count (end_at format code at) instruction ≡ None

-- what is wrong with the octets at an offset, behind that many actions of a row
abbrev pub StepWrong : Format → Counts → Option ℕ → List ℕ → ℕ → ImageFault → Type 0
StepWrong format counts count code at fault =
    (octets_fault format (drop at code) ≡ Some fault)
    ⊎ ((step : CodeInstruction) × (octets_fault format (drop at code) ≡ None)
    × StandsAt format code at (instruction_of step)
    × Fits format (instruction_of step)
    × (instruction_fault counts count (end_at format code at) (instruction_of step) ≡ Some fault))

-- the code begins with these instructions, nothing is wrong with them, and what the loader keeps of them
pub record IsScanned (format : Format) (counts : Counts) (code : List ℕ) (scan : Scan) : Type 0 where
  pub front : take scan.at code ≡ code_of (format_of format) (instructions_of scan.steps.items)
  pub inside : scan.at ≤ length code
  pub fits : All (Fits format) (instructions_of scan.steps.items)
  pub fine : AreFine format counts (instructions_of scan.steps.items)
  pub count : scan.count ≡ count_behind None (instructions_of scan.steps.items)
  pub landings : scan.landings.items ≡ landings format (instructions_of scan.steps.items)

-- what is wrong with octets behind these instructions: they begin with none, or with one that may not stand there
abbrev pub NextWrong : Format → Counts → List Instruction → List ℕ → ImageFault → Type 0
NextWrong format counts before rest fault =
    (octets_fault format rest ≡ Some fault)
    ⊎ ((instruction : Instruction) × (more : List ℕ) × (octets_fault format rest ≡ None)
    × (rest ≡ octets_of (format_of format) instruction ++ more) × Fits format instruction
    × (instruction_fault counts (count_behind None before)
    (length (code_of (format_of format) (before ++ instruction ∷ []))) instruction ≡ Some fault))

-- the first fault of the instructions of the code: the instructions before it fit the format, are spelled by exactly
-- the octets that stand there, and nothing is wrong with them; `begin` is the code's place in the image, `whole` the
-- image's length
pub record ScanWrong
    (format : Format) (counts : Counts) (code : List ℕ) (begin whole at : ℕ) (fault : ImageFault) : Type 0 where
  pub before : List Instruction
  pub fits : All (Fits format) before
  pub fine : AreFine format counts before
  pub part : ℕ
  pub front : take part code ≡ code_of (format_of format) before
  pub inside : part < length code
  pub wrong : NextWrong format counts before (drop part code) fault
  pub place : at ≡ at_of fault (begin + part) whole

-- whether an instruction ends an event
abbrev pub is_end : Instruction → Bool
is_end (BeginRow row) = false
is_end (TestGuard guard otherwise) = false
is_end (RunAction action) = false
is_end (GoTo state) = true
is_end NoRow = true

-- whether a jump may lead to an offset
abbrev pub lands : List Bool → ℕ → Bool
lands marks offset = slice_index_or marks offset false

-- whether a failed guard leads where a jump may lead
abbrev pub leads : List Bool → Instruction → Bool
leads marks (BeginRow row) = true
leads marks (TestGuard guard otherwise) = lands marks otherwise
leads marks (RunAction action) = true
leads marks (GoTo state) = true
leads marks NoRow = true

-- whether an entry leads where a jump may lead
abbrev pub is_entry : List Bool → Option ℕ → Bool
is_entry marks None = true
is_entry marks (Some offset) = lands marks offset

-- each entry leads where a jump may lead
abbrev pub EntriesLead : Format → List Instruction → List (Option ℕ) → Type 0
EntriesLead format instructions entries =
    (number : ℕ) → number < length entries
    → is_entry (landings format instructions) (slice_index_or entries number None) ≡ true

-- these are the instructions of the code, and nothing is wrong with each of them
pub record IsCode (format : Format) (counts : Counts) (code : List ℕ) (instructions : List Instruction) : Type 0 where
  pub whole : code ≡ code_of (format_of format) instructions
  pub fits : All (Fits format) instructions
  pub fine : AreFine format counts instructions

-- the last instruction is no end, or there is none and an entry; `begin` is the code's place in the image
abbrev pub EndWrong : Format → List Instruction → List (Option ℕ) → ℕ → ℕ → ImageFault → Type 0
EndWrong format instructions entries begin at NoEnd =
    ((instructions ≡ []) × (list_any is_some entries ≡ true) × (at ≡ begin))
    ⊎ ((before : List Instruction) × (last : Instruction) × (instructions ≡ before ++ last ∷ []) × (is_end last ≡ false)
    × (at ≡ begin + length (code_of (format_of format) before)))
EndWrong format instructions entries begin at other = ⊥

-- the last instruction is an end, or there is none and no entry
abbrev pub IsEnded : List Instruction → Type 0
IsEnded [] = Unit {0}
IsEnded (last ∷ []) = is_end last ≡ true
IsEnded (first ∷ second ∷ rest) = IsEnded (second ∷ rest)

-- the first guard that leads where no jump may lead
pub record GuardWrong
    (format : Format) (instructions : List Instruction) (begin at : ℕ) (fault : ImageFault) : Type 0 where
  pub before : List Instruction
  pub guard : Instruction
  pub after : List Instruction
  pub joined : instructions ≡ before ++ guard ∷ after
  pub earlier : list_all (leads (landings format instructions)) before ≡ true
  pub wrong : leads (landings format instructions) guard ≡ false
  pub place : at ≡ begin + length (code_of (format_of format) before)
  pub offset : fault ≡ Offset

-- the first entry that leads where no jump may lead; the entries begin there in the image
pub record EntryWrong
    (format : Format) (instructions : List Instruction) (entries : List (Option ℕ)) (begin at : ℕ) (fault : ImageFault)
    : Type 0 where
  pub number : ℕ
  pub inside : number < length entries
  pub earlier : (other : ℕ) → other < number
      → is_entry (landings format instructions) (slice_index_or entries other None) ≡ true
  pub wrong : is_entry (landings format instructions) (slice_index_or entries number None) ≡ false
  pub place : at ≡ begin + width_of format * number
  pub offset : fault ≡ Offset
