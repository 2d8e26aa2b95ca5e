-- What stands in the way of nodes of which all was read.
use Rattle.std.specs.Prelude.{◌≡◌, ◌⊎◌, ℕ, List, Option, codes}
use Rattle.base_device.specs.Devices.{Tells}
use Rattle.base_device.specs.declared.status.Status.{Status}
use Rattle.base_device.specs.declared.status.Status.TheVariants as statuses
use Rattle.bench_setup.specs.Halts.{IsToldHalt}
use Rattle.bench_setup.specs.declared.setups.Setup.{Setup}
use Rattle.cmd_live.specs.Refusals.{IsRefusal}
use Rattle.cmd_live.specs.declared.opening.Refused.TheVariants.{Failed, NoMemory, Told}
use Rattle.cmd_live.specs.declared.stop.Stop.{Stop}
use Rattle.cmd_live.specs.declared.stop.Stop.TheVariants.{Refused, Uncopied}
use Rattle.live_report.specs.Copies.{IsCopyError}
use Rattle.live_report.specs.declared.copies.CopyError.TheVariants.{Unread, Unwritten}
use Rattle.node_logs.specs.Logs.{unwritten_text}

-- nodes are refused, and no call failed; or a file that a node names is not copied
abbrev pub IsStop : {I : Type 0} → (remaining : I → Option (List ℕ)) → (reads failures : I → ℕ)
    → (host log : Option (List ℕ)) → List Setup → (old new : I) → (failed' : Option (List ℕ)) → Stop → Type 0
IsStop remaining reads failures host log setups old new failed' (Refused why) =
    (failures new ≡ failures old) × IsRefusal host log setups why
IsStop remaining reads failures host log setups old new failed' (Uncopied error) =
    IsCopyError remaining reads failures old new failed' error

-- it is told
abbrev pub IsToldStop : {O : Type 0} → (contents : O → Option (List ℕ)) → (failures idle : O → ℕ) → (old new : O)
    → Stop → Status → Type 0
IsToldStop contents failures idle old new (Refused (Told text)) answer =
    Tells contents failures idle old new text.items statuses.Refused answer
IsToldStop contents failures idle old new (Refused (Failed text)) answer =
    Tells contents failures idle old new text.items statuses.Fault answer
IsToldStop contents failures idle old new (Refused NoMemory) answer =
    Tells contents failures idle old new (codes "no memory\n") statuses.NoMemory answer
IsToldStop contents failures idle old new (Uncopied (Unread halt)) answer =
    IsToldHalt contents failures idle old new halt answer
IsToldStop contents failures idle old new (Uncopied (Unwritten name)) answer =
    Tells contents failures idle old new (unwritten_text name.items) statuses.Fault answer
    ⊎ Tells contents failures idle old new (codes "no memory\n") statuses.NoMemory answer
