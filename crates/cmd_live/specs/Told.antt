-- What is told of nodes that lived, and what is written.
use Rattle.std.specs.Prelude.{◌≡◌, ◌++◌, ◌∷◌, ◌^◌, ◌-◌, ℕ, Bool, false, true, List, [], Option, None, Some}
use Rattle.base_device.specs.declared.status.Status.{Status}
use Rattle.base_device.specs.declared.status.Status.TheVariants as statuses
use Rattle.base_text.specs.Numbers.{number_of}
use Rattle.bench_spec.specs.Legal.{IsLegal}
use Rattle.bench_spec.specs.Taken.{Run}
use Rattle.config_text.specs.declared.node.NodeConfig.{NodeConfig}
use Rattle.live_report.specs.Files.{AreWritten}
use Rattle.live_report.specs.Reports.{node_text}
use Rattle.live_report.specs.declared.fault.LifeFault.{LifeFault}
use Rattle.live_report.specs.declared.fault.LifeFault.TheVariants as faults
use Rattle.live_turns.specs.declared.turns.Lived.{Lived}
use Rattle.node_logs.specs.Files.{File}

-- the status where something failed
abbrev pub failed : Status → Status
failed statuses.NoMemory = statuses.NoMemory
failed statuses.Disagreed = statuses.Disagreed
failed status = statuses.Fault

-- the status where the threads of a node disagree
abbrev pub disagreed : Status → Status
disagreed statuses.NoMemory = statuses.NoMemory
disagreed status = statuses.Disagreed

-- the status behind one node more
abbrev pub worse : Status → Option LifeFault → (unwritten : Bool) → Status
worse status (Some faults.NoMemory) unwritten = statuses.NoMemory
worse status (Some faults.Disagreed) unwritten = disagreed status
worse status (Some faults.NoSocket) unwritten = failed status
worse status (Some faults.NoThread) unwritten = failed status
worse status None true = failed status
worse status None false = status

-- the files of a node that lived, where logs are wanted: they are written, or not; else nothing is
abbrev pub AreWrittenWhere : (is_logged : Bool) → NodeConfig → Run → (written written' : Option (List File))
    → (failed failed' : Option (List ℕ)) → (unwritten : Bool) → Type 0
AreWrittenWhere true node run written written' failed failed' unwritten =
    AreWritten node.identity.host node run written written' failed failed' unwritten
AreWrittenWhere false node run written written' failed failed' unwritten =
    (unwritten ≡ false) × (written' ≡ written) × (failed' ≡ failed)

-- one node more is told of, as it came out: its log is legal, and is written where that is wanted
pub record TellsOf (is_logged : Bool) (node : NodeConfig) (lived : Lived) (old new : List ℕ) (status status' : Status)
    (written written' : Option (List File)) (failed failed' : Option (List ℕ)) : Type 0 where
  pub legal : IsLegal lived.core.settings lived.core.log
  pub unwritten : Bool
  pub files : AreWrittenWhere is_logged node lived.core written written' failed failed' unwritten
  pub text : new ≡ old ++ node_text lived.core node.identity.host lived.fault unwritten
  pub status_is : status' ≡ worse status lived.fault unwritten

-- nodes are told of, one behind the other, each as it came out
pub data AreTold (is_logged : Bool) (written : Option (List File)) (failed : Option (List ℕ)) : List NodeConfig
    → (lived : List (Option Lived)) → (text : List ℕ) → Status → (written' : Option (List File))
    → (failed' : Option (List ℕ)) → Type 0 where
  nothing : AreTold is_logged written failed [] [] [] statuses.Done written failed
  one_more : (nodes : List NodeConfig) (node : NodeConfig) (lived : List (Option Lived)) (one : Lived)
      (text text' : List ℕ) (status status' : Status) (before after : Option (List File))
      (failed_before failed_after : Option (List ℕ))
      → AreTold is_logged written failed nodes lived text status before failed_before
      → TellsOf is_logged node one text text' status status' before after failed_before failed_after
      → AreTold is_logged written failed (nodes ++ node ∷ []) (lived ++ Some one ∷ []) text' status' after failed_after

-- the seconds that a word asks for; without one as many as a number tells
abbrev pub seconds_of : Option (List ℕ) → Option ℕ
seconds_of None = Some (2 ^ 64 - 1)
seconds_of (Some word) = number_of word
