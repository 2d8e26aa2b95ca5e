-- What is told where a table's text is drawn.
use Rattle.std.specs.Prelude.{◌≡◌, ◌⊎◌, ℕ, Bool, List, Option, codes, is_some}
use Rattle.std.specs.Option.{option_map_or}
use Rattle.base_device.specs.Devices.{Tells}
use Rattle.base_device.specs.Tellings.{told_status}
use Rattle.base_device.specs.declared.status.Status.{Status}
use Rattle.base_device.specs.declared.status.Status.TheVariants as statuses
use Rattle.fault_text.specs.Faults.{table_fault}
use Rattle.tab_text.specs.Faults.{first_fault}
use Rattle.tab_text.specs.Rows.{table_of}
use Rattle.tab_text.specs.declared.fault.TextFault.{TextFault}
use Rattle.tab_draw.specs.Drawing.{drawing}

-- what is told of a table's text: its first fault, or its graph
unfoldable pub graph_text : List ℕ → List ℕ
graph_text table = option_map_or (table_fault table) (first_fault table) (drawing (table_of table))

-- and with which status: a fault is a refusal
abbrev pub graph_status : Option TextFault → Status
graph_status fault = told_status (is_some fault)

-- what is told, and whether it is a refusal
abbrev pub IsTold : (table text : List ℕ) → Bool → Type 0
IsTold table text refused = (text ≡ graph_text table) × (refused ≡ is_some (first_fault table))

-- that is told, or memory ran out, and that is
abbrev pub IsDrawnOn : {O : Type 0} → (contents : O → Option (List ℕ)) → (failures idle : O → ℕ) → (table : List ℕ)
    → (old new : O) → Status → Type 0
IsDrawnOn contents failures idle table old new answer =
    Tells contents failures idle old new (graph_text table) (graph_status (first_fault table)) answer
    ⊎ Tells contents failures idle old new (codes "no memory\n") statuses.NoMemory answer
