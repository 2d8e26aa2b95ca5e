-- What is told of the commands that a debugger does on a bench that is opened.
use Rattle.std.specs.Prelude.{◌≡◌, ◌⊎◌, ℕ, List, ◌++◌, Option, Some, None, codes}
use Rattle.std.specs.Io.KnownBytes.{Consumes}
use Rattle.base_device.specs.Devices.{Tells}
use Rattle.base_device.specs.Inputs.{IsInput}
use Rattle.base_device.specs.declared.status.Status.{Status}
use Rattle.base_device.specs.declared.status.Status.TheVariants as statuses
use Rattle.base_dialog.specs.Lines.{AreLines, IsCut}
use Rattle.bench_debug.specs.Debug.{Debugging}
use Rattle.bench_spec.specs.Opening.{Config}
use Rattle.cmd_debug.specs.Opened.{refusal_of, start_of}
use Rattle.cmd_debug.specs.Sessions.{IsSession}

-- Nothing was refused; an input was read whole, and what is told is, line by line, what a debugger replies to it.
pub record RepliesToAll {I O : Type 0} (remaining : I → Option (List ℕ)) (reads failures : I → ℕ)
    (contents : O → Option (List ℕ)) (write_failures idle : O → ℕ) (config : Config) (script : List ℕ)
    (source source' : I) (sink sink' : O) (answer : Status) : Type 0 where
  pub free : refusal_of config script ≡ None
  pub commands : List ℕ
  pub read : IsInput remaining reads failures source source' commands
  pub lines : List (List ℕ)
  pub are_lines : AreLines commands lines
  pub new : Debugging
  pub said : List ℕ
  pub session : IsSession (start_of config script) new lines said
  pub told : Tells contents write_failures idle sink sink' said statuses.Done answer

-- Memory ran out: what is told is what it replies to the lines of a front of what was read, and that.
pub record RepliesToFront {I O : Type 0} (remaining : I → Option (List ℕ)) (reads failures : I → ℕ)
    (contents : O → Option (List ℕ)) (write_failures idle : O → ℕ) (config : Config) (script : List ℕ)
    (source source' : I) (sink sink' : O) (answer : Status) : Type 0 where
  pub free : refusal_of config script ≡ None
  pub turned : I
  pub no_read : reads turned ≡ reads source
  pub sound : failures turned ≡ failures source
  pub front : List ℕ
  pub back : List ℕ
  pub read : Consumes (remaining turned) (remaining source') (front ++ back)
  pub lines : List (List ℕ)
  pub begun : List ℕ
  pub cut : IsCut front lines begun
  pub new : Debugging
  pub said : List ℕ
  pub session : IsSession (start_of config script) new lines said
  pub told : Tells contents write_failures idle sink sink' (said ++ codes "no memory\n") statuses.NoMemory answer

-- The opening is refused, or a line of the script, and nothing is read.
pub record IsRefusedAtStart {I O : Type 0} (contents : O → Option (List ℕ)) (write_failures idle : O → ℕ)
    (config : Config) (script : List ℕ) (source source' : I) (sink sink' : O) (answer : Status) : Type 0 where
  pub text : List ℕ
  pub refused : refusal_of config script ≡ Some text
  pub unread : source' ≡ source
  pub told : Tells contents write_failures idle sink sink' text statuses.Refused answer

abbrev pub IsDebugOn : {I O : Type 0} → (remaining : I → Option (List ℕ)) → (reads failures : I → ℕ)
    → (contents : O → Option (List ℕ)) → (write_failures idle : O → ℕ) → Config → (script : List ℕ)
    → (source source' : I) → (sink sink' : O) → Status → Type 0
IsDebugOn remaining reads failures contents write_failures idle config script source source' sink sink' answer =
    RepliesToAll remaining reads failures contents write_failures idle config script source source' sink sink' answer
    ⊎ RepliesToFront remaining reads failures contents write_failures idle config script source source' sink sink'
    answer
    ⊎ IsRefusedAtStart contents write_failures idle config script source source' sink sink' answer
    ⊎
    ((source' ≡ source) × Tells contents write_failures idle sink sink' (codes "no memory\n")
    statuses.NoMemory answer)
