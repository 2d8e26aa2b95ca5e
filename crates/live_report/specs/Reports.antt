-- What is told of a node that lived.
use Rattle.std.specs.Prelude.{◌++◌, ℕ, Bool, false, true, List, [], Option, None, Some, codes, decimal, length, map}
use Rattle.acct_book.specs.Book.{Opened}
use Rattle.bench_script.specs.Ends.{totals_text}
use Rattle.bench_spec.specs.Taken.{Run}
use Rattle.live_report.specs.declared.fault.LifeFault.{LifeFault}
use Rattle.live_report.specs.declared.fault.LifeFault.TheVariants as faults
use Rattle.step_text.specs.Names.{shown}

-- the numbers of the accounts that a bench was opened with
abbrev pub ids_of : Run → List ℕ
ids_of run = map (λ (account : Opened). account.id) run.settings.accounts

-- `node HOST ok N`, or `node HOST disagree` where its threads have no legal log together
abbrev pub standing_text : Run → (host : List ℕ) → Option LifeFault → List ℕ
standing_text run host (Some faults.Disagreed) = codes "node " ++ shown host ++ codes " disagree\n"
standing_text run host fault =
    codes "node " ++ shown host ++ codes " ok " ++ decimal (length run.log) ++ codes "\n"

-- the same, and each account
abbrev pub report_text : Run → (host : List ℕ) → Option LifeFault → List ℕ
report_text run host fault = standing_text run host fault ++ totals_text run (ids_of run)

-- why a node went no further, where it did not
abbrev pub fault_text : (host : List ℕ) → Option LifeFault → List ℕ
fault_text host None = []
fault_text host (Some faults.NoSocket) = codes "node " ++ shown host ++ codes ": the system refuses a socket\n"
fault_text host (Some faults.NoThread) = codes "node " ++ shown host ++ codes ": the system refuses a thread\n"
fault_text host (Some faults.Disagreed) = []
fault_text host (Some faults.NoMemory) = codes "node " ++ shown host ++ codes ": no memory\n"

-- that its files were to be written, and are not
abbrev pub unwritten_text : (host : List ℕ) → Bool → List ℕ
unwritten_text host false = []
unwritten_text host true = codes "node " ++ shown host ++ codes ": its files can't be written\n"

-- what is told of a node
abbrev pub node_text : Run → (host : List ℕ) → Option LifeFault → (unwritten : Bool) → List ℕ
node_text run host fault unwritten =
    report_text run host fault ++ fault_text host fault ++ unwritten_text host unwritten
