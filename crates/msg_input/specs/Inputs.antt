-- What is printed of an input: its messages in order, and then how reading it ended.
use Rattle.std.specs.Prelude.{◌≡◌, ◌⊎◌, ◌≤◌, ℕ, ◌+◌, Bool, false, List, [], ◌∷◌, ◌++◌, length, Option, Some, None}
use Rattle.std.specs.Io.KnownBytes.{Appends, Consumes, IsAtEnd}
use Rattle.dia_frame.specs.Frames.{Frames, fault_of, joined}
use Rattle.dia_frame.specs.declared.fault.FrameFault.{FrameFault}
use Rattle.base_text.specs.Digits.{Means, is_hex_text}
use Rattle.msg_input.specs.Ends.{end_status}
use Rattle.msg_input.specs.Printed.{PrintsAll, Saying}
use Rattle.msg_input.specs.declared.ends.Refusal.TheVariants as refusals
use Rattle.msg_input.specs.declared.ends.End.{End}
use Rattle.msg_input.specs.declared.ends.Place.{Place}
use Rattle.msg_input.specs.declared.ends.End.TheVariants.{Whole, Refused, ReadFailed, TooManyReads}
use Rattle.base_device.specs.declared.status.Status.{Status}

-- The text means some octets and leaves this digit or none; the messages of the octets are printed as these lines, and
-- their rest, which begins at this place, shows this fault or none (RFC 6733 section 3).
pub record FrontText (says : Saying) (first : ℕ) (text : List ℕ) (half : Option ℕ) (fault : Option FrameFault)
    (lines : List ℕ) (place : Place) : Type 0 where
  pub octets : List ℕ
  pub messages : List (List ℕ)
  pub rest : List ℕ
  pub refused : Bool
  pub meaning : Means None text octets half
  pub frames : Frames octets 4096 messages rest
  pub shown : fault_of 4096 rest ≡ fault
  pub printed : PrintsAll says first 0 messages lines refused
  pub messages_before : place.messages ≡ first + length messages
  pub octets_before : place.octets ≡ length (joined messages)
  pub characters_before : place.characters ≡ length text

-- octets that are left over are one message more
abbrev pub left_over : List ℕ → List (List ℕ)
left_over [] = []
left_over (octet ∷ octets) = (octet ∷ octets) ∷ []

-- The whole text means some octets, which show no fault;
-- their messages are printed, and their rest as one message more.
pub record WholeText (says : Saying) (first : ℕ) (text lines : List ℕ) (refused : Bool) (place : Place) : Type 0 where
  pub octets : List ℕ
  pub messages : List (List ℕ)
  pub rest : List ℕ
  pub meaning : Means None text octets None
  pub frames : Frames octets 4096 messages rest
  pub no_fault : fault_of 4096 rest ≡ None
  pub printed : PrintsAll says first 0 (messages ++ left_over rest) lines refused
  pub counted : place.messages ≡ first + length (messages ++ left_over rest)

-- The text leaves a digit over; the messages before it are printed.
pub record OddText (says : Saying) (first : ℕ) (text lines : List ℕ) (place : Place) : Type 0 where
  pub digit : ℕ
  pub before : FrontText says first text (Some digit) None lines place

-- A character of the text is neither digit nor blank; the messages before it are printed.
pub record BadText (says : Saying) (first : ℕ) (text lines : List ℕ) (place : Place) : Type 0 where
  pub front : List ℕ
  pub bad : ℕ
  pub back : List ℕ
  pub half : Option ℕ
  pub joined : text ≡ front ++ bad ∷ back
  pub is_bad : is_hex_text bad ≡ false
  pub before : FrontText says first front half None lines place

-- A front of the text shows a frame fault; the messages before it are printed.
pub record FaultyText (says : Saying) (first : ℕ) (text lines : List ℕ) (fault : FrameFault)
    (place : Place) : Type 0 where
  pub front : List ℕ
  pub back : List ℕ
  pub half : Option ℕ
  pub joined : text ≡ front ++ back
  pub before : FrontText says first front half (Some fault) lines place

-- The input didn't come to its end; the messages that came are printed.
pub record BrokenText (says : Saying) (first : ℕ) (text lines : List ℕ) (place : Place) : Type 0 where
  pub half : Option ℕ
  pub before : FrontText says first text half None lines place

-- The text means some octets. Of their messages those in front are printed, among them each that ends before the last
-- 4,096 octets.
pub record ShortText (says : Saying) (first : ℕ) (text lines : List ℕ) (refused : Bool) : Type 0 where
  pub half : Option ℕ
  pub early : List ℕ
  pub late : List ℕ
  pub due : List (List ℕ)
  pub more : List (List ℕ)
  pub others : List (List ℕ)
  pub waits : List ℕ
  pub rest : List ℕ
  pub meaning : Means None text (early ++ late) half
  pub few : length late ≤ 4096
  pub before : Frames early 4096 due waits
  pub frames : Frames (early ++ late) 4096 ((due ++ more) ++ others) rest
  pub printed : PrintsAll says first 0 (due ++ more) lines refused

-- Memory ran out: what is printed are the first messages of a front of the text, all but those that its last 4,096
-- octets end, and behind the front are at most 65,536 characters.
pub record HaltedText (says : Saying) (first : ℕ) (text lines : List ℕ) (refused : Bool) : Type 0 where
  pub front : List ℕ
  pub back : List ℕ
  pub joined : text ≡ front ++ back
  pub near : length back ≤ 65536
  pub before : ShortText says first front lines refused

-- the lines of a text's messages, by how reading it ended, whether one of them is a fault, and how far it was read
-- where it was refused; `AtEnd` says that nothing is left to read
abbrev pub IsPrintedOf : Saying → ℕ → Type 0 → List ℕ → List ℕ → End → Bool → Place → Type 0
IsPrintedOf says first AtEnd text lines Whole refused place = AtEnd × WholeText says first text lines refused place
IsPrintedOf says first AtEnd text lines (Refused refusals.BadHex) refused place =
    (AtEnd × OddText says first text lines place) ⊎ BadText says first text lines place
IsPrintedOf says first AtEnd text lines (Refused (refusals.Frame fault)) refused place =
    FaultyText says first text lines fault place
IsPrintedOf says first AtEnd text lines (Refused refusals.NoMemory) refused place =
    HaltedText says first text lines refused
IsPrintedOf says first AtEnd text lines ReadFailed refused place = BrokenText says first text lines place
IsPrintedOf says first AtEnd text lines TooManyReads refused place = BrokenText says first text lines place

-- what is printed of a text: whether nothing is left to read, the text, its lines, how reading it ended,
-- whether one of them is a fault, and how far it was read
abbrev pub Printing : Type 1
Printing = Type 0 → List ℕ → List ℕ → End → Bool → Place → Type 0

-- What was read and what was written out belong together: what is printed of the text, and then what its end prints.
pub record IsReport (prints : Printing) (end_text : End → Place → List ℕ) {I O : Type 0}
    (remaining : I → Option (List ℕ)) (contents : O → Option (List ℕ)) (source source' : I) (sink sink' : O)
    (status : Status) : Type 0 where
  pub text : List ℕ
  pub lines : List ℕ
  pub end : End
  pub refused : Bool
  pub place : Place
  pub read : Consumes (remaining source) (remaining source') text
  pub printed : prints (IsAtEnd (remaining source')) text lines end refused place
  pub written : Appends (contents sink) (contents sink') (lines ++ end_text end place)
  pub is_status : status ≡ end_status end refused
