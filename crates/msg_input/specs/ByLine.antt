-- What is printed of an input whose lines are each an input by itself.
use Rattle.std.specs.Prelude.{◌≡◌, ◌≢◌, ◌≤◌, ◌||◌, ℕ, ◌+◌, Bool, true, false, List, [], ◌∷◌, ◌++◌, length}
use Rattle.std.specs.Prelude.{Option, Some, All}
use Rattle.std.specs.List.{flat_map}
use Rattle.msg_input.specs.Inputs.{IsPrintedOf}
use Rattle.msg_input.specs.Printed.{Saying}
use Rattle.msg_input.specs.declared.ends.Refusal.TheVariants as refusals
use Rattle.msg_input.specs.declared.ends.End.{End}
use Rattle.msg_input.specs.declared.ends.End.TheVariants.{Whole, Refused, ReadFailed, TooManyReads}
use Rattle.msg_input.specs.declared.ends.Place.{Place}

-- a line without the newline that ends it
abbrev pub IsLine : List ℕ → Type 0
IsLine line = All (λ c. c ≢ 10) line

-- lines with the newline that ends each
abbrev pub ended : List (List ℕ) → List ℕ
ended lines = flat_map (λ line. line ++ 10 ∷ []) lines

-- a line was read whole, or something in it is refused; it says whether
abbrev pub IsJudged : End → Bool → Bool → Type 0
IsJudged Whole faulty refused = refused ≡ faulty
IsJudged (Refused refusals.BadHex) faulty refused = refused ≡ true
IsJudged (Refused (refusals.Frame fault)) faulty refused = refused ≡ true
IsJudged (Refused refusals.NoMemory) faulty refused = ⊥
IsJudged ReadFailed faulty refused = ⊥
IsJudged TooManyReads faulty refused = ⊥

-- what is printed of a message in a line of that number
abbrev pub LineSaying : Type 1
LineSaying = ℕ → Saying

abbrev pub says_by : (Option ℕ → Saying) → LineSaying
says_by says number = says (Some number)

-- The text of a line: what reading it as an input by itself prints, its first message having the number behind that of
-- the last one before, and then what is told of its end; whether it tells a fault; and the number of its last message.
-- So many lines stand before it, and so many messages in them.
pub record PrintsLine (says : LineSaying) (told : ℕ → End → Place → List ℕ) (before first : ℕ) (line text : List ℕ)
    (refused : Bool) (last : ℕ) : Type 0 where
  pub lines : List ℕ
  pub end : End
  pub faulty : Bool
  pub place : Place
  pub by_itself : IsPrintedOf (says (before + 1)) first (Unit {0}) line lines end faulty place
  pub judged : IsJudged end faulty refused
  pub is_text : text ≡ lines ++ told (before + 1) end place
  pub counted : last ≡ place.messages

-- the texts of lines in their order, whether one of them tells a fault, and the number of the last message
abbrev pub PrintsLines : LineSaying → (ℕ → End → Place → List ℕ)
    → (before first : ℕ) → List (List ℕ) → List ℕ → Bool → (last : ℕ) → Type 0
PrintsLines says told before first [] text refused last = (text ≡ []) × (refused ≡ false) × (last ≡ first)
PrintsLines says told before first (line ∷ lines) text refused last =
    (front : List ℕ) × (fault : Bool) × (others : List ℕ) × (faults : Bool) × (between : ℕ)
    × PrintsLine says told before first line front fault between
    × PrintsLines says told (before + 1) between lines others faults last
    × (text ≡ front ++ others)
    × (refused ≡ (fault || faults))

-- The text has these lines, each with its newline, whose texts are these, and then a line that isn't ended.
pub record FrontLines (says : LineSaying) (told : ℕ → End → Place → List ℕ) (text printed : List ℕ)
    (refused : Bool) : Type 0 where
  pub lines : List (List ℕ)
  pub last : List ℕ
  pub joined : text ≡ ended lines ++ last
  pub each : All IsLine lines
  pub no_newline : IsLine last
  pub count : ℕ
  pub texts : PrintsLines says told 0 0 lines printed refused count

-- The same, and the last line, which has no newline, is printed too.
pub record AllLines (says : LineSaying) (told : ℕ → End → Place → List ℕ) (text printed : List ℕ)
    (refused : Bool) : Type 0 where
  pub lines : List (List ℕ)
  pub last : List ℕ
  pub joined : text ≡ ended lines ++ last
  pub each : All IsLine lines
  pub no_newline : IsLine last
  pub count : ℕ
  pub texts : PrintsLines says told 0 0 (lines ++ last ∷ []) printed refused count

-- Memory ran out: the lines of a front of the text are printed, without which it has at most 65,536 characters.
pub record HaltedLines (says : LineSaying) (told : ℕ → End → Place → List ℕ) (text printed : List ℕ)
    (refused : Bool) : Type 0 where
  pub front : List ℕ
  pub back : List ℕ
  pub joined : text ≡ front ++ back
  pub near : length back ≤ 65536
  pub before : FrontLines says told front printed refused

-- what is printed of the lines of a text, by how reading it ended
abbrev pub AreLinesOf : LineSaying → (ℕ → End → Place → List ℕ) → Type 0 → List ℕ → List ℕ → End → Bool → Place → Type 0
AreLinesOf says told AtEnd text printed Whole refused place = AtEnd × AllLines says told text printed refused
AreLinesOf says told AtEnd text printed (Refused refusals.BadHex) refused place = ⊥
AreLinesOf says told AtEnd text printed (Refused (refusals.Frame fault)) refused place = ⊥
AreLinesOf says told AtEnd text printed (Refused refusals.NoMemory) refused place =
    HaltedLines says told text printed refused
AreLinesOf says told AtEnd text printed ReadFailed refused place = FrontLines says told text printed refused
AreLinesOf says told AtEnd text printed TooManyReads refused place = FrontLines says told text printed refused
