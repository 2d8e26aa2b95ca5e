-- What `run` does: files are read, and a script is run on a bench, or something is refused before.
use Rattle.std.specs.Prelude.{◌⊎◌, ℕ, List, Option, codes}
use Rattle.base_device.specs.Devices.{Tells}
use Rattle.base_device.specs.Inputs.{IsInput}
use Rattle.base_device.specs.declared.status.Status.{Status}
use Rattle.base_device.specs.declared.status.Status.TheVariants as statuses
use Rattle.bench_setup.specs.Refusals.{IsRefusedBy}
use Rattle.bench_setup.specs.Setups.{IsFirstFrom}
use Rattle.bench_setup.specs.declared.setups.Setup.{Setup}
use Rattle.cmd_bench.specs.Told.{IsRunOn, opened_with}
use Rattle.cmd_bench.specs.declared.shown.Shown.{Shown}

-- what a bench is opened with was read, and then a script
pub record AreInputs
    {I : Type 0} (remaining : I → Option (List ℕ)) (reads failures : I → ℕ) (old new : I) (setup : Setup)
    (script : List ℕ) : Type 0 where
  pub after_setup : I
  pub setup_read : IsFirstFrom remaining reads failures old after_setup setup
  pub script_read : IsInput remaining reads failures after_setup new script

-- what a bench is opened with was read, and then a script, and what is told is the script's run
pub record RunsScript
    {I O : Type 0} (remaining : I → Option (List ℕ)) (reads failures : I → ℕ) (contents : O → Option (List ℕ))
    (write_failures idle : O → ℕ) (shown : Shown) (source source' : I) (sink sink' : O) (answer : Status) : Type 0 where
  pub setup : Setup
  pub script : List ℕ
  pub inputs : AreInputs remaining reads failures source source' setup script
  pub run : IsRunOn contents write_failures idle (opened_with setup.bench) script shown sink sink' answer

-- a text that was read before is refused, and that is told
pub record TellsRefused
    {I O : Type 0} (remaining : I → Option (List ℕ)) (reads failures : I → ℕ) (contents : O → Option (List ℕ))
    (write_failures idle : O → ℕ) (source' : I) (sink sink' : O) (answer : Status) : Type 0 where
  pub text : List ℕ
  pub refused : IsRefusedBy remaining reads failures source' text
  pub told : Tells contents write_failures idle sink sink' text statuses.Refused answer

-- a script is run, or a text that was read before is refused, or memory ran out
abbrev pub IsRunMet : {I O : Type 0} → (remaining : I → Option (List ℕ)) → (reads failures : I → ℕ)
    → (contents : O → Option (List ℕ)) → (write_failures idle : O → ℕ) → Shown → (source source' : I) → (sink sink' : O)
    → Status → Type 0
IsRunMet remaining reads failures contents write_failures idle shown source source' sink sink' answer =
    RunsScript remaining reads failures contents write_failures idle shown source source' sink sink' answer
    ⊎ TellsRefused remaining reads failures contents write_failures idle source' sink sink' answer
    ⊎ Tells contents write_failures idle sink sink' (codes "no memory\n") statuses.NoMemory answer
