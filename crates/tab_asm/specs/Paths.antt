-- Paths through the code of an image, and how events end by them.
use Rattle.std.specs.Prelude.{◌≡◌, ℕ, ◌+◌, ◌<◌, ◌≤◌, ◌++◌, ◌∷◌, [], Bool, List, Option}
use Rattle.std.specs.Prelude.{Some, None, length, drop, option_map, if◌then◌else◌}
use Rattle.tab_asm.specs.Formats.{Format, Instruction, BeginRow, TestGuard, RunAction, GoTo, NoRow, octets_of}

-- the operands of an instruction are numbers that its octets can hold, and an offset lies in the code
abbrev pub IsWhole : List ℕ → Instruction → Type 0
IsWhole code (BeginRow row) = row < 65536
IsWhole code (TestGuard guard otherwise) = otherwise < length code
IsWhole code (RunAction action) = Unit {0}
IsWhole code (GoTo state) = Unit {0}
IsWhole code NoRow = Unit {0}

-- an instruction stands at an offset of the code: its octets begin there
pub record StandsAt (format : Format) (code : List ℕ) (offset : ℕ) (instruction : Instruction) : Type 0 where
  pub whole : IsWhole code instruction
  pub rest : List ℕ
  pub octets : drop offset code ≡ octets_of format instruction ++ rest

-- the offset behind an instruction
abbrev pub behind : Format → ℕ → Instruction → ℕ
behind format offset instruction = offset + length (octets_of format instruction)

-- where a path goes on from an instruction, by what the guards say: nowhere from the last one
abbrev pub next_of : Format → (ℕ → Bool) → ℕ → Instruction → Option ℕ
next_of format says offset (BeginRow row) = Some (behind format offset (BeginRow row))
next_of format says offset (TestGuard guard otherwise) =
    if says guard then Some (behind format offset (TestGuard guard otherwise)) else Some otherwise
next_of format says offset (RunAction action) = Some (behind format offset (RunAction action))
next_of format says offset (GoTo state) = None
next_of format says offset NoRow = None

-- nothing follows the last instruction; else the path goes on at that offset
abbrev pub GoesOn : List Instruction → (ℕ → Type 0) → Option ℕ → Type 0
GoesOn rest IsRest None = rest ≡ []
GoesOn rest IsRest (Some offset) = IsRest offset

-- a path through the code from an offset to its end: each of its instructions stands where the one before leads
abbrev pub IsPath : Format → List ℕ → (ℕ → Bool) → ℕ → List Instruction → Type 0
IsPath format code says offset [] = ⊥
IsPath format code says offset (instruction ∷ rest) =
    StandsAt format code offset instruction
    × GoesOn rest (λ next. IsPath format code says next rest) (next_of format says offset instruction)

-- how an event ends: by a row with its actions and the state that it leads to, or without one
pub data Outcome : Type 0 where
  Taken : (row : ℕ) (actions : List ℕ) (next : ℕ) → Outcome
  Unlisted : Outcome

-- how a path ends behind the row that was begun last and these actions of it
abbrev pub end_of : Option ℕ → List ℕ → List Instruction → Option Outcome
end_of row actions [] = None
end_of row actions (BeginRow begun ∷ rest) = end_of (Some begun) [] rest
end_of row actions (TestGuard guard otherwise ∷ rest) = end_of row actions rest
end_of row actions (RunAction action ∷ rest) = end_of row (actions ++ action ∷ []) rest
end_of row actions (GoTo state ∷ rest) = option_map (λ number. Taken number actions state) row
end_of row actions (NoRow ∷ rest) = Some Unlisted

-- a path, of no more instructions than the code has octets, that ends so
pub record LeadsTo (format : Format) (code : List ℕ) (says : ℕ → Bool) (offset : ℕ) (outcome : Outcome) : Type 0 where
  pub path : List Instruction
  pub is_path : IsPath format code says offset path
  pub few : length path ≤ length code
  pub end : end_of None [] path ≡ Some outcome

-- what an entry leads to, by what the guards say: without an offset there is no row
abbrev pub Reaches : Format → List ℕ → (ℕ → Bool) → Option ℕ → Outcome → Type 0
Reaches format code says None outcome = outcome ≡ Unlisted
Reaches format code says (Some offset) outcome = LeadsTo format code says offset outcome
