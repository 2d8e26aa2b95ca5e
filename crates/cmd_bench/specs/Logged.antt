-- What is told of a script's run on all nodes of a CONFIG, whose logs are written.
use Rattle.std.specs.Prelude.{◌≡◌, ◌⊎◌, ℕ, Bool, true, false, List, codes, replicate, Option, Some}
use Rattle.base_device.specs.Devices.{Tells}
use Rattle.base_device.specs.Tellings.{told_status}
use Rattle.base_device.specs.declared.status.Status.{Status}
use Rattle.base_device.specs.declared.status.Status.TheVariants as statuses
use Rattle.bench_item.specs.declared.limit.TheConstants.{MAX_SHARDS}
use Rattle.bench_nodes.specs.declared.node.Node.{Node}
use Rattle.bench_setup.specs.declared.setups.Setup.{Setup}
use Rattle.node_logs.specs.Files.{File, with_files}
use Rattle.node_logs.specs.Logs.{logs_of, unwritten_text}
use Rattle.node_logs.specs.declared.logs.LogError.{LogError}
use Rattle.node_logs.specs.declared.logs.LogError.TheVariants.{Failed, NoMemory}
use Rattle.role_tables.specs.Roles.{all_laws}
use Rattle.tab_law.specs.Books.{Laws}
use Rattle.cmd_bench.specs.Met.{TellsRefused}
use Rattle.cmd_bench.specs.Nodes.{AreNodeInputs, IsNodesRun}
use Rattle.cmd_bench.specs.declared.shown.Shown.{Shown}

-- the files that were written: the logs of all nodes behind those before, and none where a run is refused
abbrev pub with_logs : Option (List File) → Bool → List Node → Option (List File)
with_logs written true nodes = written
with_logs written false nodes = with_files written (logs_of nodes)

-- which log can't be written is told, as a fault: the file that failed
pub record TellsUnwritten {O : Type 0} (contents : O → Option (List ℕ)) (failures idle : O → ℕ)
    (failed : Option (List ℕ)) (sink sink' : O) (answer : Status) : Type 0 where
  pub name : List ℕ
  pub failed_so : failed ≡ Some name
  pub told : Tells contents failures idle sink sink' (unwritten_text name) statuses.Fault answer

-- why logs are not written: which can't be, or memory ran out, which it also may for the text of that
abbrev pub IsToldWhy : {O : Type 0} → (contents : O → Option (List ℕ)) → (failures idle : O → ℕ) → LogError
    → (sink sink' : O) → Status → Type 0
IsToldWhy contents failures idle (Failed name) sink sink' answer =
    Tells contents failures idle sink sink' (unwritten_text name.items) statuses.Fault answer
    ⊎ Tells contents failures idle sink sink' (codes "no memory\n") statuses.NoMemory answer
IsToldWhy contents failures idle NoMemory sink sink' answer =
    Tells contents failures idle sink sink' (codes "no memory\n") statuses.NoMemory answer

-- the logs were written, and what was printed is told
pub record TellsEnded {O F : Type 0} (contents : O → Option (List ℕ)) (failures idle : O → ℕ)
    (written : F → Option (List File)) (nodes : List Node) (text : List ℕ) (refused : Bool)
    (sink sink' : O) (files files' : F) (answer : Status) : Type 0 where
  pub logs : written files' ≡ with_logs (written files) refused nodes
  pub told : Tells contents failures idle sink sink' text (told_status refused) answer

-- or a log can't be written, or memory ran out
abbrev pub IsToldEnded : {O F : Type 0} → (contents : O → Option (List ℕ)) → (failures idle : O → ℕ)
    → (written : F → Option (List File)) → (failed : F → Option (List ℕ)) → (nodes : List Node) → (text : List ℕ)
    → (refused : Bool) → (sink sink' : O) → (files files' : F) → Status → Type 0
IsToldEnded contents failures idle written failed nodes text refused sink sink' files files' answer =
    TellsEnded contents failures idle written nodes text refused sink sink' files files' answer
    ⊎ TellsUnwritten contents failures idle (failed files') sink sink' answer
    ⊎ Tells contents failures idle sink sink' (codes "no memory\n") statuses.NoMemory answer

-- a script was run on nodes, their logs were written, and what was printed is told
pub record LogsTold {O F : Type 0} (contents : O → Option (List ℕ)) (failures idle : O → ℕ)
    (written : F → Option (List File)) (books : List Laws) (cut : ℕ) (setups : List Setup) (script : List ℕ)
    (shown : Shown) (sink sink' : O) (files files' : F) (answer : Status) : Type 0 where
  pub nodes : List Node
  pub text : List ℕ
  pub refused : Bool
  pub run : IsNodesRun books cut setups script shown nodes text refused
  pub ended : TellsEnded contents failures idle written nodes text refused sink sink' files files' answer

-- or a log can't be written, or memory ran out
abbrev pub IsLoggedRunOn : {O F : Type 0} → (contents : O → Option (List ℕ)) → (failures idle : O → ℕ)
    → (written : F → Option (List File)) → (failed : F → Option (List ℕ)) → (books : List Laws) → (cut : ℕ)
    → (setups : List Setup) → (script : List ℕ) → Shown → (sink sink' : O) → (files files' : F) → Status → Type 0
IsLoggedRunOn contents failures idle written failed books cut setups script shown sink sink' files files' answer =
    LogsTold contents failures idle written books cut setups script shown sink sink' files files' answer
    ⊎ TellsUnwritten contents failures idle (failed files') sink sink' answer
    ⊎ Tells contents failures idle sink sink' (codes "no memory\n") statuses.NoMemory answer

-- what nodes are opened with was read, and then a script, which was run on all of them, by the laws of all roles;
-- their logs were written, and what was printed is told
pub record RunsLogged {I O F : Type 0} (remaining : I → Option (List ℕ)) (reads failures : I → ℕ)
    (contents : O → Option (List ℕ)) (write_failures idle : O → ℕ) (written : F → Option (List File))
    (cut : ℕ) (shown : Shown) (source source' : I) (sink sink' : O) (files files' : F)
    (answer : Status) : Type 0 where
  pub setups : List Setup
  pub script : List ℕ
  pub inputs : AreNodeInputs remaining reads failures source source' setups script
  pub logs : LogsTold contents write_failures idle written (replicate MAX_SHARDS all_laws) cut setups script shown
      sink sink' files files' answer

-- or a text that was read before is refused, or memory ran out
abbrev pub IsLoggedMet : {I O F : Type 0} → (remaining : I → Option (List ℕ)) → (reads failures : I → ℕ)
    → (contents : O → Option (List ℕ)) → (write_failures idle : O → ℕ) → (written : F → Option (List File))
    → (cut : ℕ) → Shown → (source source' : I) → (sink sink' : O) → (files files' : F) → Status → Type 0
IsLoggedMet remaining reads failures contents write_failures idle written cut shown source source' sink sink' files
    files' answer =
    RunsLogged remaining reads failures contents write_failures idle written cut shown source source' sink sink'
    files files' answer
    ⊎ TellsRefused remaining reads failures contents write_failures idle source' sink sink' answer
    ⊎ Tells contents write_failures idle sink sink' (codes "no memory\n") statuses.NoMemory answer
