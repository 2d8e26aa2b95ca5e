-- What may stand in the way before a bench is opened.
use Rattle.std.specs.Prelude.{◌≡◌, ℕ, List, Option, codes}
use Rattle.base_device.specs.Devices.{Tells}
use Rattle.base_device.specs.Inputs.{IsToldUnread, IsUnread}
use Rattle.base_device.specs.declared.status.Status.{Status}
use Rattle.base_device.specs.declared.status.Status.TheVariants as statuses
use Rattle.bench_setup.specs.Refusals.{IsRefusedBy}
use Rattle.bench_setup.specs.declared.halt.Halt.{Halt}
use Rattle.bench_setup.specs.declared.halt.Halt.TheVariants.{NoMemory, Refused, Unread}

-- no input was at fault: what was handed in is refused for this reason, or memory ran out
abbrev pub IsNoInput : (why : List ℕ → Type 0) → Halt → Type 0
IsNoInput why (Unread name error) = ⊥
IsNoInput why (Refused text) = why text.items
IsNoInput why NoMemory = Unit {0}

-- what stands in the way has a cause: an input was not read whole;
-- or no call failed, and a text is refused, or memory ran out
abbrev pub IsHalt : {I : Type 0} → (remaining : I → Option (List ℕ))
    → (reads failures : I → ℕ) → (old new : I) → Halt → Type 0
IsHalt remaining reads failures old new (Unread name why) = IsUnread reads failures old new why
IsHalt remaining reads failures old new (Refused text) =
    (failures new ≡ failures old) × IsRefusedBy remaining reads failures new text.items
IsHalt remaining reads failures old new NoMemory = failures new ≡ failures old

-- it is told
abbrev pub IsToldHalt : {O : Type 0} → (contents : O → Option (List ℕ))
    → (failures idle : O → ℕ) → (old new : O) → Halt → Status → Type 0
IsToldHalt contents failures idle old new (Unread name why) answer =
    IsToldUnread contents failures idle old new why answer
IsToldHalt contents failures idle old new (Refused text) answer =
    Tells contents failures idle old new text.items statuses.Refused answer
IsToldHalt contents failures idle old new NoMemory answer =
    Tells contents failures idle old new (codes "no memory\n") statuses.NoMemory answer
