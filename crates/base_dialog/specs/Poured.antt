-- What was read of an input, and what was written out.
use Rattle.std.specs.Prelude.{◌≡◌, ℕ, List, ◌++◌, Option, Result, Ok, Err}
use Rattle.std.specs.Io.KnownBytes.{Appends, Consumes}
use Rattle.base_device.specs.Inputs.{IsRead, IsUnread}
use Rattle.base_device.specs.declared.whole.InputError.{InputError}
use Rattle.base_device.specs.declared.whole.InputError.TheVariants.{NoMemory}
use Rattle.base_dialog.specs.Dialogs.{HasAnswered, HasAnsweredAll, HasAnsweredFront}
use Rattle.base_dialog.specs.declared.dialog.Dialog.{Dialog}

-- the input was read to its end, and the answers to all its lines were written out
pub record PouredAll {T I O : Type 0} (has_answered : T → T → List (List ℕ) → List ℕ → Type 0) (start : T)
    (remaining : I → Option (List ℕ)) (failures : I → ℕ) (contents : O → Option (List ℕ)) (source source' : I)
    (sink sink' : O) : Type 0 where
  pub text : List ℕ
  pub said : List ℕ
  pub read : IsRead remaining failures source source' text
  pub answered : HasAnsweredAll has_answered start text said
  pub wrote : Appends (contents sink) (contents sink') said

-- a text was read, and the answers to the lines of a front of it were written out
pub record PouredFront {T I O : Type 0} (has_answered : T → T → List (List ℕ) → List ℕ → Type 0) (start : T)
    (remaining : I → Option (List ℕ)) (contents : O → Option (List ℕ)) (source source' : I)
    (sink sink' : O) : Type 0 where
  pub text : List ℕ
  pub said : List ℕ
  pub read : Consumes (remaining source) (remaining source') text
  pub answered : HasAnsweredFront has_answered start text said
  pub wrote : Appends (contents sink) (contents sink') said

-- by how that ended: with the input, for want of memory, or since no more can be read
abbrev pub IsPoured : {T I O : Type 0} → (has_answered : T → T → List (List ℕ) → List ℕ → Type 0) → (start : T)
    → (remaining : I → Option (List ℕ)) → (reads failures : I → ℕ) → (contents : O → Option (List ℕ))
    → (source source' : I) → (sink sink' : O) → Result (Unit {0}) InputError → Type 0
IsPoured has_answered start remaining reads failures contents source source' sink sink' (Ok done) =
    PouredAll has_answered start remaining failures contents source source' sink sink'
IsPoured has_answered start remaining reads failures contents source source' sink sink' (Err NoMemory) =
    (failures source' ≡ failures source) × PouredFront has_answered start remaining contents source source' sink sink'
IsPoured has_answered start remaining reads failures contents source source' sink sink' (Err why) =
    IsUnread reads failures source source' why

-- the last line was answered, and that was written out; or memory was wanting
abbrev pub Closes : {T O : Type 0} → (has_answered : T → T → List (List ℕ) → List ℕ → Type 0) → Dialog T
    → (contents : O → Option (List ℕ)) → (sink sink' : O) → Result (Unit {0}) InputError → Type 0
Closes has_answered dialog contents sink sink' (Ok done) =
    (last : List ℕ) × Appends (contents sink) (contents sink') last
    × ((start : _) (text said : List ℕ) → HasAnswered has_answered start dialog text said
    → HasAnsweredAll has_answered start text (said ++ last))
Closes has_answered dialog contents sink sink' (Err NoMemory) = sink' ≡ sink
Closes has_answered dialog contents sink sink' (Err why) = ⊥
