-- What is told of an input whose lines are answered.
use Rattle.std.specs.Prelude.{◌≡◌, ◌⊎◌, ℕ, List, ◌++◌, Option, codes}
use Rattle.std.specs.Io.KnownBytes.{Consumes}
use Rattle.base_device.specs.Devices.{Tells}
use Rattle.base_device.specs.Inputs.{IsRead}
use Rattle.base_device.specs.declared.status.Status.{Status}
use Rattle.base_device.specs.declared.status.Status.TheVariants.{Done, NoMemory}
use Rattle.base_dialog.specs.Dialogs.{HasAnsweredAll, HasAnsweredFront}

-- the input was read to its end, and what is told are the answers to all its lines
pub record TellsAll {T I O : Type 0} (has_answered : T → T → List (List ℕ) → List ℕ → Type 0) (start : T)
    (remaining : I → Option (List ℕ)) (failures : I → ℕ) (contents : O → Option (List ℕ))
    (write_failures idle : O → ℕ) (source source' : I) (sink sink' : O) (answer : Status) : Type 0 where
  pub text : List ℕ
  pub said : List ℕ
  pub read : IsRead remaining failures source source' text
  pub answered : HasAnsweredAll has_answered start text said
  pub told : Tells contents write_failures idle sink sink' said Done answer

-- memory ran out: what is told are the answers to the lines of a front of what was read, and that
pub record TellsFront {T I O : Type 0} (has_answered : T → T → List (List ℕ) → List ℕ → Type 0) (start : T)
    (remaining : I → Option (List ℕ)) (contents : O → Option (List ℕ)) (write_failures idle : O → ℕ)
    (source source' : I) (sink sink' : O) (answer : Status) : Type 0 where
  pub text : List ℕ
  pub said : List ℕ
  pub read : Consumes (remaining source) (remaining source') text
  pub answered : HasAnsweredFront has_answered start text said
  pub told : Tells contents write_failures idle sink sink' (said ++ codes "no memory\n") NoMemory answer

-- all lines are answered, or memory runs out
abbrev pub IsAnsweredFrom : {T I O : Type 0} → (has_answered : T → T → List (List ℕ) → List ℕ → Type 0) → (start : T)
    → (remaining : I → Option (List ℕ)) → (failures : I → ℕ) → (contents : O → Option (List ℕ))
    → (write_failures idle : O → ℕ) → (source source' : I) → (sink sink' : O) → Status → Type 0
IsAnsweredFrom has_answered start remaining failures contents write_failures idle source source' sink sink' answer =
    TellsAll has_answered start remaining failures contents write_failures idle source source' sink sink' answer
    ⊎ TellsFront has_answered start remaining contents write_failures idle source source' sink sink' answer

-- the same, once the source was turned to the input, for which no read is made
pub record IsAnswered {T I O : Type 0} (has_answered : T → T → List (List ℕ) → List ℕ → Type 0) (start : T)
    (remaining : I → Option (List ℕ)) (reads failures : I → ℕ) (contents : O → Option (List ℕ))
    (write_failures idle : O → ℕ) (source source' : I) (sink sink' : O) (answer : Status) : Type 0 where
  pub turned : I
  pub no_read : reads turned ≡ reads source
  pub sound : failures turned ≡ failures source
  pub dialog : IsAnsweredFrom has_answered start remaining failures contents write_failures idle turned source' sink
      sink' answer
