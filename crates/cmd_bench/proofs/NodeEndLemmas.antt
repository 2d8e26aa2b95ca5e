-- How a run of all nodes ends, by what was told.
use Rattle.std.proofs.Common.{◌≡◌, ℕ, List, Option, inl, inr}
use Rattle.std.specs.Prelude.{codes}
use Rattle.base_device.specs.Devices.{IsRun}
use Rattle.base_device.specs.Tellings.{told_status}
use Rattle.base_device.specs.declared.status.Status.{Status}
use Rattle.base_device.specs.declared.status.Status.TheVariants as statuses
use Rattle.bench_setup.specs.declared.setups.Setup.{Setup}
use Rattle.tab_law.specs.Books.{Laws}
use Rattle.cmd_bench.specs.Nodes.{IsNodesRunOn}
use Rattle.cmd_bench.specs.declared.shown.Shown.{Shown}
use Rattle.cmd_bench.proofs.EndLemmas.{status_is, told_run, told_words}

pub nodes_run : {I O : Type 0} (reads read_failures : I → ℕ) (contents : O → Option (List ℕ)) (write_failures idle : O → ℕ) (books : List Laws) (cut : ℕ) (setups : List Setup) (script : List ℕ) (shown : Shown) (source source' : I) (sink sink' : O) (answer : Status)
    → IsNodesRunOn contents write_failures idle books cut setups script shown sink sink' answer → read_failures source' ≡ read_failures source
    → IsRun reads read_failures write_failures idle source source' sink sink' answer
nodes_run reads read_failures contents write_failures idle books cut setups script shown source source' sink sink' answer (inl run) same =
    told_run reads read_failures contents write_failures idle source source' sink sink' run.text (told_status run.refused) answer run.told (status_is run.refused).0 same
nodes_run reads read_failures contents write_failures idle books cut setups script shown source source' sink sink' answer (inr told) same =
    told_run reads read_failures contents write_failures idle source source' sink sink' (codes "no memory\n") statuses.NoMemory answer told (λ h. cc) same

pub nodes_words : {O : Type 0} (contents : O → Option (List ℕ)) (write_failures idle : O → ℕ) (books : List Laws) (cut : ℕ) (setups : List Setup) (script : List ℕ) (shown : Shown) (sink sink' : O) (answer : Status)
    → IsNodesRunOn contents write_failures idle books cut setups script shown sink sink' answer → answer ≡ statuses.Usage → ⊥
nodes_words contents write_failures idle books cut setups script shown sink sink' answer (inl run) =
    told_words contents write_failures idle sink sink' run.text (told_status run.refused) answer run.told (status_is run.refused).1
nodes_words contents write_failures idle books cut setups script shown sink sink' answer (inr told) =
    told_words contents write_failures idle sink sink' (codes "no memory\n") statuses.NoMemory answer told (λ h. cc)
