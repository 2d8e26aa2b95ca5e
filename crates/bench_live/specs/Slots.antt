-- What comes to a shard behind its lock, and why it does not.
use Rattle.std.specs.Prelude.{◌≡◌, ◌==◌, ◌&&◌, ◌||◌, ℕ, Bool, true, false, not, Option, Some, None}
use Rattle.std.specs.Prelude.{is_some, if◌then◌else◌, unwrap_or}
use Rattle.bench_desk.specs.Desks.{DeskView, look_refusal, tell_refusal}
use Rattle.bench_desk.specs.Parts.{PartView, is_full, node_in, with_arrival}
use Rattle.bench_desk.specs.Working.{key_in_part, lift_refusal, work_refusal}
use Rattle.bench_desk.specs.declared.fault.DeskFault.{DeskFault}
use Rattle.bench_desk.specs.declared.fault.DeskFault.TheVariants.{NoMemory, Unknown}
use Rattle.bench_item.specs.Keys.{home}
use Rattle.bench_item.specs.declared.item.Item.{Item}
use Rattle.bench_item.specs.declared.item.Item.TheVariants.{Arm}
use Rattle.bench_item.specs.declared.item.MachineItem.{MachineItem}
use Rattle.bench_item.specs.declared.key.Key.{Key}
use Rattle.bench_item.specs.declared.source.Source.{Source}
use Rattle.bench_spec.specs.Settings.{Settings}
use Rattle.live_slot.specs.declared.turn.Turn.{Turn}
use Rattle.live_slot.specs.declared.turn.Turn.TheVariants as turns

-- whether it is the shard of a machine, of so many
abbrev pub is_home_of : PartView → ℕ → Key → Bool
is_home_of v shards key =
    (v.shard.peers.shards == shards) && (home v.shard.peers.shards key.name == v.shard.number)

abbrev pub is_for : PartView → MachineItem → Bool
is_for v item = is_home_of v v.shard.peers.shards item.key

-- whether an item may come: it is for this shard, and there is room
abbrev pub may_come : PartView → MachineItem → Bool
may_come v item = is_for v item && not (is_full v)

-- what came of an item that comes from a source: it came behind the others; or it may not; or memory was refused
abbrev pub HasArrived : Turn → PartView → PartView → Source → ℕ → MachineItem → Type 0
HasArrived turns.Done v w source stamp item = (may_come v item ≡ true) × (w ≡ with_arrival v source stamp item)
HasArrived turns.Idle v w source stamp item = (may_come v item ≡ false) × (w ≡ v)
HasArrived turns.NoMemory v w source stamp item = (may_come v item ≡ true) × (w ≡ v)

-- why a tell or a look is refused, memory aside: the machine is another shard's, or what the part says
abbrev pub tell_refusal_at : Settings → PartView → DeskView → Key → ℕ → Option DeskFault
tell_refusal_at settings part desk key kind =
    if is_home_of part desk.shards key then tell_refusal settings part desk key kind else Some Unknown

abbrev pub look_refusal_at : Settings → PartView → DeskView → ℕ → Key → Option DeskFault
look_refusal_at settings part desk stamp key =
    if is_home_of part desk.shards key then look_refusal settings part desk stamp key else Some Unknown

-- a look was refused, with a stamp that was drawn: for the first reason that holds, or for memory where none does
pub record IsLookFault (part : PartView) (desk : DeskView) (key : Key) (fault : DeskFault) : Type 0 where
  pub stamp : ℕ
  pub first : (settings : Settings) → settings.node ≡ node_in part
      → fault ≡ unwrap_or (look_refusal_at settings part desk stamp key) NoMemory

-- the key that goes with an item: that of the machine whose timer it arms
abbrev pub key_for : PartView → Item → Option Key
key_for part (Arm machine generation ticks) = key_in_part part machine
key_for part item = None

-- whether its worker has nothing to do: the bench does not end, it was not called, nothing is to be worked, and nothing
-- is to be lifted or its hand is full
abbrev pub is_idle : PartView → Bool → Bool → Bool → Bool
is_idle part called ending has_hand =
    not ending && not called && is_some (work_refusal part) && (has_hand || is_some (lift_refusal part))
