-- How a run ends whose nodes' logs are written.
use Rattle.std.proofs.Common.{◌≡◌, ◌⊎◌, ℕ, Bool, List, Option, inl, inr}
use Rattle.std.specs.Prelude.{codes}
use Rattle.base_device.specs.Devices.{IsRun, Tells}
use Rattle.base_device.specs.Tellings.{told_status}
use Rattle.base_device.specs.declared.status.Status.{Status}
use Rattle.base_device.specs.declared.status.Status.TheVariants as statuses
use Rattle.bench_nodes.specs.declared.node.Node.{Node}
use Rattle.bench_setup.specs.declared.setups.Setup.{Setup}
use Rattle.node_logs.specs.Files.{File}
use Rattle.node_logs.specs.Logs.{unwritten_text}
use Rattle.tab_law.specs.Books.{Laws}
use Rattle.cmd_bench.specs.Logged.{IsLoggedRunOn, IsToldEnded, LogsTold, TellsUnwritten}
use Rattle.cmd_bench.specs.Nodes.{IsNodesRun}
use Rattle.cmd_bench.specs.declared.shown.Shown.{Shown}
use Rattle.cmd_bench.proofs.EndLemmas.{status_is, told_run, told_words}

-- what was told of nodes that ran is told of the run
pub logs_told : {O F : Type 0} (contents : O → Option (List ℕ)) (failures idle : O → ℕ) (written : F → Option (List File)) (failed : F → Option (List ℕ)) (books : List Laws) (cut : ℕ) (setups : List Setup) (script : List ℕ) (shown : Shown) (nodes : List Node) (text : List ℕ) (refused : Bool) (sink sink' : O) (files files' : F) (answer : Status)
    → IsNodesRun books cut setups script shown nodes text refused → IsToldEnded contents failures idle written failed nodes text refused sink sink' files files' answer
    → IsLoggedRunOn contents failures idle written failed books cut setups script shown sink sink' files files' answer
logs_told contents failures idle written failed books cut setups script shown nodes text refused sink sink' files files' answer run (inl ended) =
    inl (record { nodes = nodes; text = text; refused = refused; run = run; ended = ended })
logs_told contents failures idle written failed books cut setups script shown nodes text refused sink sink' files files' answer run (inr why) = inr why

-- no read failed, and a fault has a cause, but for a log that can't be written
pub logged_run : {I O F : Type 0} (reads read_failures : I → ℕ) (contents : O → Option (List ℕ)) (write_failures idle : O → ℕ) (written : F → Option (List File)) (failed : F → Option (List ℕ)) (books : List Laws) (cut : ℕ) (setups : List Setup) (script : List ℕ) (shown : Shown) (source source' : I) (sink sink' : O) (files files' : F) (answer : Status)
    → IsLoggedRunOn contents write_failures idle written failed books cut setups script shown sink sink' files files' answer → read_failures source' ≡ read_failures source
    → IsRun reads read_failures write_failures idle source source' sink sink' answer ⊎ TellsUnwritten contents write_failures idle (failed files') sink sink' answer
logged_run reads read_failures contents write_failures idle written failed books cut setups script shown source source' sink sink' files files' answer (inl run) same =
    inl (told_run reads read_failures contents write_failures idle source source' sink sink' run.text (told_status run.refused) answer run.ended.told (status_is run.refused).0 same)
logged_run reads read_failures contents write_failures idle written failed books cut setups script shown source source' sink sink' files files' answer (inr (inl unwritten)) same = inr unwritten
logged_run reads read_failures contents write_failures idle written failed books cut setups script shown source source' sink sink' files files' answer (inr (inr told)) same =
    inl (told_run reads read_failures contents write_failures idle source source' sink sink' (codes "no memory\n") statuses.NoMemory answer told (λ h. cc) same)

-- where it is no fault, the logs were written, or memory ran out
unwritten_fault : {O : Type 0} (contents : O → Option (List ℕ)) (failures idle : O → ℕ) (failed' : Option (List ℕ)) (sink sink' : O) (answer : Status)
    → TellsUnwritten contents failures idle failed' sink sink' answer → answer ≡ statuses.Fault
unwritten_fault contents failures idle failed' sink sink' answer unwritten =
    elim unwritten.told [ inl whole ↦ whole.1 | inr fault ↦ fault.1 ]

pub logged_met : {O F : Type 0} (contents : O → Option (List ℕ)) (failures idle : O → ℕ) (written : F → Option (List File)) (failed : F → Option (List ℕ)) (books : List Laws) (cut : ℕ) (setups : List Setup) (script : List ℕ) (shown : Shown) (sink sink' : O) (files files' : F) (answer : Status)
    → IsLoggedRunOn contents failures idle written failed books cut setups script shown sink sink' files files' answer → (answer ≡ statuses.Fault → ⊥)
    → LogsTold contents failures idle written books cut setups script shown sink sink' files files' answer
    ⊎ Tells contents failures idle sink sink' (codes "no memory\n") statuses.NoMemory answer
logged_met contents failures idle written failed books cut setups script shown sink sink' files files' answer (inl run) unlike = inl run
logged_met contents failures idle written failed books cut setups script shown sink sink' files files' answer (inr (inl unwritten)) unlike =
    absurd (unlike (unwritten_fault contents failures idle (failed files') sink sink' answer unwritten))
logged_met contents failures idle written failed books cut setups script shown sink sink' files files' answer (inr (inr told)) unlike = inr told

pub logged_words : {O F : Type 0} (contents : O → Option (List ℕ)) (failures idle : O → ℕ) (written : F → Option (List File)) (failed : F → Option (List ℕ)) (books : List Laws) (cut : ℕ) (setups : List Setup) (script : List ℕ) (shown : Shown) (sink sink' : O) (files files' : F) (answer : Status)
    → IsLoggedRunOn contents failures idle written failed books cut setups script shown sink sink' files files' answer → answer ≡ statuses.Usage → ⊥
logged_words contents failures idle written failed books cut setups script shown sink sink' files files' answer (inl run) =
    told_words contents failures idle sink sink' run.text (told_status run.refused) answer run.ended.told (status_is run.refused).1
logged_words contents failures idle written failed books cut setups script shown sink sink' files files' answer (inr (inl unwritten)) =
    told_words contents failures idle sink sink' (unwritten_text unwritten.name) statuses.Fault answer unwritten.told (λ h. cc)
logged_words contents failures idle written failed books cut setups script shown sink sink' files files' answer (inr (inr told)) =
    told_words contents failures idle sink sink' (codes "no memory\n") statuses.NoMemory answer told (λ h. cc)
