-- What comes of an item that is dropped at the connections or the timers, or lifted, under the lock of where it is.
use Rattle.std.specs.Prelude.{◌≡◌, ℕ, true, is_some, Option, None, Some}
use Rattle.bench_desk.specs.Parts.{PartView}
use Rattle.bench_desk.specs.Working.{lift_refusal, with_lift}
use Rattle.bench_item.specs.declared.item.Item.{Item}
use Rattle.bench_item.specs.declared.source.Source.{Source}
use Rattle.bench_item.specs.declared.step.Step.TheVariants.{Drop}
use Rattle.bench_queue.specs.Outbox.{next_out}
use Rattle.live_parts.specs.Clocks.{ClockView, drop_refusal as clock_refusal, lift_refusal as fired_refusal}
use Rattle.live_parts.specs.Clocks.{with_lift as lifted_from}
use Rattle.live_parts.specs.Entries.{carried_entry}
use Rattle.live_parts.specs.LineParts.{IsAdded, LinesPartView, drop_refusal}
use Rattle.live_slot.specs.declared.hand.Hand.{Hand}
use Rattle.live_slot.specs.declared.turn.Turn.{Turn}
use Rattle.live_slot.specs.declared.turn.Turn.TheVariants as turns

-- an item came to the connections, with a stamp that was drawn; or there is no room, and they are as they were; or
-- memory was refused, and they are as they were
abbrev pub DropsAtLines : Turn → LinesPartView → LinesPartView → Source → Item → Type 0
DropsAtLines turns.Done v w source item =
    (drop_refusal v item ≡ None) × ((stamp : ℕ) × IsAdded v w stamp (carried_entry (Drop source) item))
DropsAtLines turns.Idle v w source item = (is_some (drop_refusal v item) ≡ true) × (w ≡ v)
DropsAtLines turns.NoMemory v w source item = (drop_refusal v item ≡ None) × (w ≡ v)

-- the same of an item for the timers, by what they are after it, with a stamp that was drawn
abbrev pub DropsAtClock : Turn → ClockView → ClockView → (ℕ → ClockView) → Type 0
DropsAtClock turns.Done v w after = (clock_refusal v ≡ None) × ((stamp : ℕ) × (w ≡ after stamp))
DropsAtClock turns.Idle v w after = (is_some (clock_refusal v) ≡ true) × (w ≡ v)
DropsAtClock turns.NoMemory v w after = (clock_refusal v ≡ None) × (w ≡ v)

-- the oldest item that a shard put out was lifted, with a stamp that was drawn; or nothing may be lifted, and the part
-- is as it was; or memory was refused, and it is as it was
abbrev pub Lifts : Option Hand → Turn → PartView → PartView → Type 0
Lifts (Some hand) turn v w =
    (next_out v.shard.outbox ≡ Some hand.item) × ((stamp : ℕ) × (w ≡ with_lift v stamp hand.item))
Lifts None turns.NoMemory v w = (lift_refusal v ≡ None) × (w ≡ v)
Lifts None turn v w = (is_some (lift_refusal v) ≡ true) × (w ≡ v)

-- an item in the hand stays there, and its part is as it was; an empty hand lifts
abbrev pub Nexts : Option Hand → Option Hand → Turn → PartView → PartView → Type 0
Nexts None hand turn v w = Lifts hand turn v w
Nexts (Some held) (Some hand) turn v w = (hand.item ≡ held.item) × (w ≡ v)
Nexts (Some held) None turn v w = ⊥

-- the same of the oldest item that fired
abbrev pub LiftsFired : Option Hand → Turn → ClockView → ClockView → Type 0
LiftsFired (Some hand) turn v w =
    (next_out v.outbox ≡ Some hand.item) × ((stamp : ℕ) × (w ≡ lifted_from v stamp hand.item))
LiftsFired None turns.NoMemory v w = (fired_refusal v ≡ None) × (w ≡ v)
LiftsFired None turn v w = (is_some (fired_refusal v) ≡ true) × (w ≡ v)

-- an item in the hand stays there
abbrev pub StaysInHand : Option Hand → Option Hand → Type 0
StaysInHand None hand = Unit {0}
StaysInHand (Some held) hand = hand ≡ Some held
