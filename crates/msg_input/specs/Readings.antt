-- What a reading holds of the text that was read so far.
use Rattle.std.specs.Prelude.{◌≡◌, ◌+◌, ℕ, Bool, false, List, [], ◌∷◌, ◌++◌, length, Option, Some, None}
use Rattle.std.specs.Prelude.{Result, Ok, Err}
use Rattle.std.specs.Io.KnownBytes.{Appends, Consumes, IsAtEnd}
use Rattle.dia_frame.specs.Frames.{Frames, joined}
use Rattle.dia_frame.specs.Framer.{FramerState, Shows}
use Rattle.dia_frame.specs.declared.fault.FrameFault.{FrameFault}
use Rattle.base_text.specs.Digits.{Means, is_hex_text}
use Rattle.msg_input.specs.Inputs.{OddText, Printing, ShortText, WholeText}
use Rattle.msg_input.specs.Printed.{PrintsAll, Saying}
use Rattle.msg_input.specs.Reports.{Gains}
use Rattle.msg_input.specs.declared.ends.Refusal.{Refusal}
use Rattle.msg_input.specs.declared.ends.Refusal.TheVariants as refusals
use Rattle.msg_input.specs.declared.ends.End.{End}
use Rattle.msg_input.specs.declared.ends.Place.{Place}
use Rattle.msg_input.specs.declared.report.Report.{Report}
use Rattle.msg_input.specs.declared.reading.Reading.{Reading}

-- The messages of these octets were taken: their lines are those written out and those that are kept, and the Framer
-- shows this fault or none.
pub record Stands (says : Saying) (first : ℕ) {M : Type 0} (framer : FramerState) (report : Report M)
    (octets written : List ℕ) (fault : Option FrameFault) : Type 0 where
  pub messages : List (List ℕ)
  pub frames : Shows framer 4096 messages octets fault
  pub none_waits : framer.waiting ≡ []
  pub printed : PrintsAll says first 0 messages (written ++ report.out.items) report.refused
  pub counted : report.messages ≡ first + length messages
  pub placed : report.octets ≡ length (joined messages)

-- The text means octets, and leaves the digit that is kept.
pub record SoFar (says : Saying) (first : ℕ) {M : Type 0} (reading : Reading M) (text written : List ℕ)
    (fault : Option FrameFault) : Type 0 where
  pub octets : List ℕ
  pub meaning : Means None text octets reading.half
  pub stands : Stands says first reading.framer reading.report octets written fault
  pub passed : reading.characters ≡ length text

-- how far the input was read
abbrev pub place_of : {M : Type 0} → Reading M → Place
place_of reading =
    record { messages = reading.report.messages; octets = reading.report.octets; characters = reading.characters }

-- The messages that waited were printed behind the others.
pub record PrintsWaiting (says : Saying) {M : Type 0} (framer framer' : FramerState)
    (report report' : Report M) : Type 0 where
  pub text : List ℕ
  pub refused : Bool
  pub printed : PrintsAll says report.messages report.octets framer.waiting text refused
  pub gained : Gains report report' framer.waiting text refused
  pub emptied : framer' ≡ record framer { waiting = [] }

-- Memory ran out: of the messages that waited those in front were printed behind the others, and no line of the next.
pub record PrintsFront (says : Saying) {M : Type 0} (framer : FramerState) (report report' : Report M) : Type 0 where
  pub front : List (List ℕ)
  pub back : List (List ℕ)
  pub text : List ℕ
  pub refused : Bool
  pub waiting : framer.waiting ≡ front ++ back
  pub printed : PrintsAll says report.messages report.octets front text refused
  pub gained : Gains report report' front text refused

-- Memory ran out: of the messages of these octets those that were printed before, and some more, are printed.
pub record Halts (says : Saying) (first : ℕ) {M : Type 0} (before : List (List ℕ)) (report : Report M)
    (octets written : List ℕ) : Type 0 where
  pub more : List (List ℕ)
  pub others : List (List ℕ)
  pub rest : List ℕ
  pub frames : Frames octets 4096 ((before ++ more) ++ others) rest
  pub printed : PrintsAll says first 0 (before ++ more) (written ++ report.out.items) report.refused

-- by what taking a piece answered: no fault is shown, or this one, or memory ran out; a piece has no bad characters
abbrev pub TakesPiece : Result (Unit {0}) Refusal → (Option FrameFault → Type 0) → (Halted : Type 0) → Type 0
TakesPiece (Ok done) Stood Halted = Stood None
TakesPiece (Err refusals.BadHex) Stood Halted = ⊥
TakesPiece (Err (refusals.Frame fault)) Stood Halted = Stood (Some fault)
TakesPiece (Err refusals.NoMemory) Stood Halted = Halted

-- by what taking a text answered: all of it was taken, or its front up to a bad character, or up to a frame fault,
-- or up to where memory ran out
abbrev pub TakesText : Saying → ℕ → {M : Type 0}
    → Result (Unit {0}) Refusal → Reading M → (before text written : List ℕ) → Type 0
TakesText says first (Ok done) new before text written = SoFar says first new (before ++ text) written None
TakesText says first (Err refusals.BadHex) new before text written =
    (front : List ℕ) × (bad : ℕ) × (back : List ℕ) × (text ≡ front ++ bad ∷ back) × (is_hex_text bad ≡ false)
    × SoFar says first new (before ++ front) written None
TakesText says first (Err (refusals.Frame fault)) new before text written =
    (front : List ℕ) × (back : List ℕ) × (text ≡ front ++ back)
    × SoFar says first new (before ++ front) written (Some fault)
TakesText says first (Err refusals.NoMemory) new before text written =
    (front : List ℕ) × (back : List ℕ) × (text ≡ front ++ back)
    × ShortText says first (before ++ front) (written ++ new.report.out.items) new.report.refused

-- by what the end answered: the text is printed whole, or leaves a digit over, or memory ran out for its last message
abbrev pub Finishes : Saying → ℕ → {M : Type 0}
    → Result (Unit {0}) Refusal → Reading M → (text written : List ℕ) → Type 0
Finishes says first (Ok done) new text written =
    WholeText says first text (written ++ new.report.out.items) new.report.refused (place_of new)
Finishes says first (Err refusals.BadHex) new text written =
    OddText says first text (written ++ new.report.out.items) (place_of new)
Finishes says first (Err (refusals.Frame fault)) new text written = ⊥
Finishes says first (Err refusals.NoMemory) new text written =
    ShortText says first text (written ++ new.report.out.items) new.report.refused

-- A text was read, and some of its lines were written out; with those that are kept they are the lines of the text.
pub record IsPoured (prints : Printing) {I O : Type 0} (remaining : I → Option (List ℕ))
    (contents : O → Option (List ℕ)) (source source' : I) (sink sink' : O) (kept : List ℕ) (refused : Bool)
    (place : Place) (end : End) : Type 0 where
  pub text : List ℕ
  pub written : List ℕ
  pub read : Consumes (remaining source) (remaining source') text
  pub taken : Appends (contents sink) (contents sink') written
  pub printed : prints (IsAtEnd (remaining source')) text (written ++ kept) end refused place
