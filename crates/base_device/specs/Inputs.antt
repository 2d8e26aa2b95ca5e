-- What an input that is read whole gives, and why one is not read whole.
use Rattle.std.specs.Prelude.{◌≡◌, ◌≤◌, ℕ, ◌+◌, ◌++◌, ◌⊎◌, List, Option, Some, None, codes}
use Rattle.std.specs.Io.KnownBytes.{Consumes, IsAtEnd}
use Rattle.base_device.specs.Devices.{Tells}
use Rattle.base_device.specs.declared.status.Status.{Status}
use Rattle.base_device.specs.declared.status.Status.TheVariants.{Fault}
use Rattle.base_device.specs.declared.status.Status.TheVariants as statuses
use Rattle.base_device.specs.declared.inputs.OpenError.{OpenError}
use Rattle.base_device.specs.declared.inputs.OpenError.TheVariants.{Directory}
use Rattle.base_device.specs.declared.inputs.OpenError.TheVariants as opens
use Rattle.base_device.specs.declared.whole.InputError.{InputError}
use Rattle.base_device.specs.declared.whole.InputError.TheVariants.{NotOpened, Failed, NoEnd, NoMemory}

-- This text was read, nothing is left, and no call failed.
pub record IsRead
    {I : Type 0} (remaining : I → Option (List ℕ)) (failures : I → ℕ) (old new : I) (text : List ℕ) : Type 0 where
  pub read : Consumes (remaining old) (remaining new) text
  pub whole : IsAtEnd (remaining new)
  pub sound : failures new ≡ failures old

-- The same, once the source was turned to the input, for which no read is made.
pub record IsInput
    {I : Type 0} (remaining : I → Option (List ℕ)) (reads failures : I → ℕ) (old new : I) (text : List ℕ) : Type 0 where
  pub start : I
  pub no_read : reads start ≡ reads old
  pub sound : failures start ≡ failures old
  pub read : IsRead remaining failures start new text

-- one call failed, or none did and 1,048,576 reads were made, or memory ran out
abbrev pub IsUnread : {I : Type 0} → (reads failures : I → ℕ) → (old new : I) → InputError → Type 0
IsUnread reads failures old new (NotOpened why) = failures new ≡ failures old + 1
IsUnread reads failures old new Failed = failures new ≡ failures old + 1
IsUnread reads failures old new NoEnd = (failures new ≡ failures old) × (reads old + 1048576 ≤ reads new)
IsUnread reads failures old new NoMemory = failures new ≡ failures old

-- want of memory is told as such, all else by some text and as a fault
abbrev pub IsToldUnread : {O : Type 0} → (contents : O → Option (List ℕ)) → (failures idle : O → ℕ) → (old new : O)
    → InputError → Status → Type 0
IsToldUnread contents failures idle old new NoMemory answer =
    Tells contents failures idle old new (codes "no memory\n") statuses.NoMemory answer
IsToldUnread contents failures idle old new why answer =
    (text : List ℕ) × Tells contents failures idle old new text Fault answer

-- what is said of a file that is not opened
abbrev pub not_opened : List ℕ → OpenError → List ℕ
not_opened name Directory = codes "read fault: " ++ name ++ codes " is a directory\n"
not_opened name opens.Failed = codes "read fault: " ++ name ++ codes " can't be opened\n"

-- what is said of an input that is not read whole: a file of this name, or standard input
abbrev pub not_read : Option (List ℕ) → InputError → List ℕ
not_read name NoMemory = codes "no memory\n"
not_read name NoEnd = codes "read fault: no end of input after 1048576 reads\n"
not_read (Some name) (NotOpened why) = not_opened name why
not_read (Some name) Failed = codes "read fault: " ++ name ++ codes " can't be read\n"
not_read None (NotOpened why) = codes "read fault\n"
not_read None Failed = codes "read fault\n"

-- the status that it is told with
abbrev pub unread_status : InputError → Status
unread_status NoMemory = statuses.NoMemory
unread_status why = Fault

-- This is told with this status; where memory is wanting for a text that holds a name, only that a read failed.
abbrev pub IsSaid : {O : Type 0} → (contents : O → Option (List ℕ)) → (failures idle : O → ℕ) → (old new : O)
    → (text : List ℕ) → (status answer : Status) → Type 0
IsSaid contents failures idle old new text status answer =
    Tells contents failures idle old new text status answer
    ⊎ Tells contents failures idle old new (codes "read fault\n") Fault answer
