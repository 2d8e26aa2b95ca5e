-- What a connection has sent, as messages in names.
use Rattle.std.specs.Prelude.{◌≡◌, ℕ, Bool, List, [], ◌∷◌, ◌++◌, None, codes, length}
use Rattle.base_text.specs.Contents.{content_text}
use Rattle.dia_dict.specs.Dictionary.{known}
use Rattle.dia_frame.specs.Frames.{Frames, joined}
use Rattle.msg_explain.specs.Explained.{Explains}
use Rattle.msg_input.specs.Printed.{PrintsAll, Saying}
use Rattle.sent_text.specs.declared.messages.TheConstants.{LONGEST}

-- what is said of a message by the standard's names: the `number`th, at an octet of what was sent
abbrev pub says : Saying
says number offset octets text refused = Explains [] (known []) None number offset octets text refused

-- `rest HEX`: octets behind the messages that begin none
abbrev pub rest_text : List ℕ → List ℕ
rest_text [] = []
rest_text (octet ∷ octets) = codes "rest" ++ content_text (octet ∷ octets) ++ codes "\n"

-- Messages that wait are said, the first with the number 1 at octet 0, and they have so many octets.
pub record TellsWaiting (waiting : List (List ℕ)) (place : ℕ) (old new : List ℕ) : Type 0 where
  pub lines : List ℕ
  pub refused : Bool
  pub printed : PrintsAll says 0 0 waiting lines refused
  pub placed : place ≡ length (joined waiting)
  pub put : new ≡ old ++ lines

-- The octets are messages, each said behind those before it, and then a rest (RFC 6733 section 3).
pub record Tells (octets text : List ℕ) : Type 0 where
  pub messages : List (List ℕ)
  pub rest : List ℕ
  pub lines : List ℕ
  pub refused : Bool
  pub frames : Frames octets LONGEST messages rest
  pub printed : PrintsAll says 0 0 messages lines refused
  pub said : text ≡ lines ++ rest_text rest
