-- What is known of the lines of an input that was read so far.
use Rattle.std.specs.Prelude.{◌≡◌, ◌+◌, ◌||◌, ℕ, Bool, List, [], ◌++◌, length, Option, Some, None, Result, Ok, Err, All}
use Rattle.msg_input.specs.ByLine.{AllLines, FrontLines, IsLine, LineSaying, PrintsLine, PrintsLines, ended}
use Rattle.msg_input.specs.Inputs.{BadText, FaultyText}
use Rattle.msg_input.specs.Printed.{Saying}
use Rattle.msg_input.specs.Readings.{SoFar, place_of}
use Rattle.msg_input.specs.declared.ends.Refusal.{Refusal}
use Rattle.msg_input.specs.declared.ends.Refusal.TheVariants as refusals
use Rattle.msg_input.specs.declared.ends.End.{End}
use Rattle.msg_input.specs.declared.ends.End.TheVariants.{Whole, Refused}
use Rattle.msg_input.specs.declared.ends.Place.{Place}
use Rattle.msg_input.specs.declared.reading.Reading.{Reading}
use Rattle.msg_input.specs.declared.by_line.ByLine.{ByLine}

-- a line that is read no further, whatever comes behind
abbrev pub IsStopped : Saying → ℕ → {M : Type 0} → Reading M → List ℕ → Refusal → Type 0
IsStopped says first reading line refusals.BadHex = BadText says first line reading.report.out.items (place_of reading)
IsStopped says first reading line (refusals.Frame fault) =
    FaultyText says first line reading.report.out.items fault (place_of reading)
IsStopped says first reading line refusals.NoMemory = ⊥

-- what ends a line and not all reading
abbrev pub MayStop : Refusal → Type 0
MayStop refusals.BadHex = Unit {0}
MayStop (refusals.Frame fault) = Unit {0}
MayStop refusals.NoMemory = ⊥

-- a line that is read along, or no further
abbrev pub IsAlong : Saying → ℕ → {M : Type 0} → Reading M → List ℕ → Option Refusal → Type 0
IsAlong says first reading line None = SoFar says first reading line [] None
IsAlong says first reading line (Some why) = IsStopped says first reading line why

-- the texts of the lines before are as they were
pub record KeepsTexts {M : Type 0} (old new : ByLine M) : Type 0 where
  pub before : new.before ≡ old.before
  pub messages : new.messages ≡ old.messages
  pub out : new.out.items ≡ old.out.items
  pub marked : new.refused ≡ old.refused

-- A line ended: its text came behind the others, and the next one begins.
pub record Ended (says : LineSaying) (told : ℕ → End → Place → List ℕ) {M : Type 0} (old new : ByLine M)
    (line : List ℕ) : Type 0 where
  pub text : List ℕ
  pub refused : Bool
  pub printed : PrintsLine says told old.before old.messages line text refused new.messages
  pub out : new.out.items ≡ old.out.items ++ text
  pub marked : new.refused ≡ (old.refused || refused)
  pub count : new.before ≡ old.before + 1
  pub next : IsAlong (says (new.before + 1)) new.messages new.reading [] new.stopped

-- The lines of the text before the last are printed, and the last one is read along.
pub record LinesSoFar (says : LineSaying) (told : ℕ → End → Place → List ℕ) {M : Type 0} (state : ByLine M)
    (text written : List ℕ) : Type 0 where
  pub lines : List (List ℕ)
  pub last : List ℕ
  pub joined : text ≡ ended lines ++ last
  pub each : All IsLine lines
  pub no_newline : IsLine last
  pub texts : PrintsLines says told 0 0 lines (written ++ state.out.items) state.refused state.messages
  pub count : state.before ≡ length lines
  pub along : IsAlong (says (state.before + 1)) state.messages state.reading last state.stopped

-- by what taking a text answered: all of it was taken, or memory ran out behind the lines of a front of it
abbrev pub TakesLines : LineSaying → (ℕ → End → Place → List ℕ)
    → {M E : Type 0} → Result (Unit {0}) E → ByLine M → (before text written : List ℕ) → Type 0
TakesLines says told (Ok done) new before text written = LinesSoFar says told new (before ++ text) written
TakesLines says told (Err error) new before text written =
    (front : List ℕ) × (back : List ℕ) × (text ≡ front ++ back)
    × FrontLines says told (before ++ front) (written ++ new.out.items) new.refused

-- how an input ends whose last line is ended, or isn't for want of memory
abbrev pub end_of : {E : Type 0} → Result (Unit {0}) E → End
end_of (Ok done) = Whole
end_of (Err error) = Refused refusals.NoMemory

-- by what the end answered: all lines are printed, or those before the last
abbrev pub AreFinished : LineSaying → (ℕ → End → Place → List ℕ)
    → {M E : Type 0} → Result (Unit {0}) E → ByLine M → (text written : List ℕ) → Type 0
AreFinished says told (Ok done) new text written = AllLines says told text (written ++ new.out.items) new.refused
AreFinished says told (Err error) new text written = FrontLines says told text (written ++ new.out.items) new.refused
