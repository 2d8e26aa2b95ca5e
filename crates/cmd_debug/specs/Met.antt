-- What `debug` does: files are read, and commands are done on a bench, or something is refused before.
use Rattle.std.specs.Prelude.{◌≡◌, ◌⊎◌, ℕ, List, [], Option, Some, None, codes}
use Rattle.base_device.specs.Devices.{Tells}
use Rattle.base_device.specs.Inputs.{IsInput}
use Rattle.base_device.specs.declared.status.Status.{Status}
use Rattle.base_device.specs.declared.status.Status.TheVariants as statuses
use Rattle.bench_setup.specs.Setups.{IsFirstFrom}
use Rattle.bench_setup.specs.declared.setups.Setup.{Setup}
use Rattle.cmd_bench.specs.Met.{TellsRefused}
use Rattle.cmd_bench.specs.Told.{opened_with}
use Rattle.cmd_debug.specs.Told.{IsDebugOn}

-- the script of a file that was read whole, or none
abbrev pub IsScriptFrom : {I : Type 0} → (remaining : I → Option (List ℕ)) → (reads failures : I → ℕ) → Option
    (List ℕ) → (old new : I) → List ℕ → Type 0
IsScriptFrom remaining reads failures None old new script = (new ≡ old) × (script ≡ [])
IsScriptFrom remaining reads failures (Some name) old new script = IsInput remaining reads failures old new script

-- what a bench is opened with was read, and then a script, where one is named
pub record AreInputsOf {I : Type 0} (remaining : I → Option (List ℕ)) (reads failures : I → ℕ)
    (name : Option (List ℕ)) (old new : I) (setup : Setup) (script : List ℕ) : Type 0 where
  pub after_setup : I
  pub setup_read : IsFirstFrom remaining reads failures old after_setup setup
  pub script_read : IsScriptFrom remaining reads failures name after_setup new script

-- the same, and then commands were done
pub record DoesCommands {I O : Type 0} (remaining : I → Option (List ℕ)) (reads failures : I → ℕ)
    (contents : O → Option (List ℕ)) (write_failures idle : O → ℕ) (name : Option (List ℕ)) (source source' : I)
    (sink sink' : O) (answer : Status) : Type 0 where
  pub setup : Setup
  pub script : List ℕ
  pub after_script : I
  pub inputs : AreInputsOf remaining reads failures name source after_script setup script
  pub commands : IsDebugOn remaining reads failures contents write_failures idle (opened_with setup.bench) script
      after_script source' sink sink' answer

-- commands are done, or a text that was read before is refused, or memory ran out
abbrev pub IsDebugMet : {I O : Type 0} → (remaining : I → Option (List ℕ)) → (reads failures : I → ℕ)
    → (contents : O → Option (List ℕ)) → (write_failures idle : O → ℕ) → (name : Option (List ℕ)) → (source source' : I)
    → (sink sink' : O) → Status → Type 0
IsDebugMet remaining reads failures contents write_failures idle name source source' sink sink' answer =
    DoesCommands remaining reads failures contents write_failures idle name source source' sink sink' answer
    ⊎ TellsRefused remaining reads failures contents write_failures idle source' sink sink' answer
    ⊎ Tells contents write_failures idle sink sink' (codes "no memory\n") statuses.NoMemory answer
