-- What `read` does: messages of a file or of standard input, by the dictionary of another file or without one.
use Rattle.std.specs.Prelude.{◌≡◌, ◌⊎◌, ◌<◌, ℕ, Bool, List, Option, Some, None, Result, Ok, Err, codes}
use Rattle.std.specs.Io.KnownBytes.{IsAtEnd}
use Rattle.base_device.specs.Devices.{Tells}
use Rattle.base_device.specs.Inputs.{IsInput}
use Rattle.base_device.specs.declared.status.Status.{Status}
use Rattle.base_device.specs.declared.status.Status.TheVariants as statuses
use Rattle.dia_show.specs.Glossary.{Meanings, base_meanings}
use Rattle.dict_text.specs.Read.{glossary_of}
use Rattle.dict_text.specs.Told.{wrong_text}
use Rattle.dict_text.specs.Wrong.{WrongAt}
use Rattle.msg_text.specs.Inputs.{IsReport}
use Rattle.msg_text.specs.Styles.{end_in, printed_in}
use Rattle.msg_input.specs.declared.style.Style.{Style}

-- memory ran out, and that is told
abbrev pub TellsNoMemory : {O : Type 0} → (contents : O → Option (List ℕ))
    → (failures idle : O → ℕ) → (old new : O) → Status → Type 0
TellsNoMemory contents failures idle old new answer =
    Tells contents failures idle old new (codes "no memory\n") statuses.NoMemory answer

-- Messages of a file or of standard input were read: what was written out is what the text prints in the style, each of
-- its lines by itself or not, by what was added to the dictionary. Without a file the text is that of the source. It is
-- done only where nothing is left to read, and refused only where something was read.
pub record ReadsMessages {I O : Type 0} (remaining : I → Option (List ℕ)) (reads : I → ℕ)
    (contents : O → Option (List ℕ)) (style : Style) (by_line : Bool) (g : Meanings) (file : Option (List ℕ))
    (source source' : I) (sink sink' : O) (answer : Status) : Type 0 where
  pub start : I
  pub no_read : reads start ≡ reads source
  pub standard : file ≡ None → start ≡ source
  pub report : IsReport (printed_in style by_line g) (end_in style) remaining contents start source' sink sink' answer
  pub whole : answer ≡ statuses.Done → IsAtEnd (remaining source')
  pub some : answer ≡ statuses.Refused → reads source < reads source'

-- messages were read by what a dictionary adds, once the source is turned to standard input, for which no read is made
pub record ReadsByGlossary {I O : Type 0} (remaining : I → Option (List ℕ))
    (reads : I → ℕ) (contents : O → Option (List ℕ)) (style : Style) (by_line : Bool) (file : Option (List ℕ))
    (read : Result Meanings WrongAt) (source source' : I) (sink sink' : O) (answer : Status) : Type 0 where
  pub glossary : Meanings
  pub is : read ≡ Ok glossary
  pub turned : I
  pub no_read : reads turned ≡ reads source
  pub messages : ReadsMessages remaining reads contents style by_line glossary file turned source' sink sink' answer

-- a dictionary's first wrong line is told, and nothing more is read, or memory ran out
pub record TellsWrong {I O : Type 0} (contents : O → Option (List ℕ)) (write_failures idle : O → ℕ)
    (read : Result Meanings WrongAt) (source source' : I) (sink sink' : O) (answer : Status) : Type 0 where
  pub wrong : WrongAt
  pub is : read ≡ Err wrong
  pub no_more : source' ≡ source
  pub told : Tells contents write_failures idle sink sink' (wrong_text wrong) statuses.Refused answer
      ⊎ TellsNoMemory contents write_failures idle sink sink' answer

-- A dictionary was read whole, and messages were read by it, or it is refused.
pub record ReadsByDictionary {I O : Type 0} (remaining : I → Option (List ℕ)) (reads failures : I → ℕ)
    (contents : O → Option (List ℕ)) (write_failures idle : O → ℕ) (style : Style) (by_line : Bool)
    (file : Option (List ℕ)) (source source' : I) (sink sink' : O) (answer : Status) : Type 0 where
  pub text : List ℕ
  pub between : I
  pub read : IsInput remaining reads failures source between text
  pub as_asked : ReadsByGlossary remaining reads contents style by_line file (glossary_of text) between source'
      sink sink' answer ⊎ TellsWrong contents write_failures idle (glossary_of text) between source' sink sink' answer

-- what `read` does, by the dictionary of a file or without one
abbrev pub ReadsWith : {I O : Type 0} → (remaining : I → Option (List ℕ))
    → (reads failures : I → ℕ) → (contents : O → Option (List ℕ)) → (write_failures idle : O → ℕ)
    → Style → Bool → (dictionary file : Option (List ℕ)) → (source source' : I) → (sink sink' : O) → Status → Type 0
ReadsWith remaining reads failures contents write_failures idle style by_line None file source source' sink sink'
    answer =
    ReadsMessages remaining reads contents style by_line base_meanings file source source' sink sink' answer
ReadsWith remaining reads failures contents write_failures idle style by_line (Some dictionary) file source source'
    sink sink' answer =
    ReadsByDictionary remaining reads failures contents write_failures idle style by_line file
    source source' sink sink' answer
