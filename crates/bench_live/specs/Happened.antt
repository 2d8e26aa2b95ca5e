-- What comes of a step of a connection.
use Rattle.std.specs.Prelude.{◌≡◌, ℕ, Bool, true, false, Option, None, Some}
use Rattle.bench_item.specs.declared.source.Source.TheVariants.{Line}
use Rattle.bench_item.specs.declared.step.Step.{Step}
use Rattle.bench_item.specs.declared.step.Step.TheVariants.{Dialled, Came, Lost, Lift}
use Rattle.bench_item.specs.declared.step.StepFault.{StepFault}
use Rattle.bench_item.specs.declared.step.StepFault.TheVariants.{Unknown}
use Rattle.bench_line.specs.Lines.{came_refusal, dialled_refusal, lost_refusal, next_on}
use Rattle.live_parts.specs.Entries.{bare_entry, carried_entry}
use Rattle.live_parts.specs.LineParts.{IsAdded, LinesPartView, fault_or_full, lift_refusal}
use Rattle.live_slot.specs.declared.hand.Hand.{Hand}

-- whether a step is something that happens to a connection
abbrev pub happens : Step → Bool
happens (Dialled line) = true
happens (Came line piece) = true
happens (Lost line) = true
happens step = false

-- why it does not happen, memory aside: what the connections say against it, and then that their part is full
abbrev pub happen_refusal : LinesPartView → Step → Option StepFault
happen_refusal v (Dialled line) = fault_or_full v (dialled_refusal v.lines line)
happen_refusal v (Came line piece) = fault_or_full v (came_refusal v.lines line)
happen_refusal v (Lost line) = fault_or_full v (lost_refusal v.lines line)
happen_refusal v step = Some Unknown

-- just that step was added to the connections' part, with a stamp that was drawn
pub record HasHappened (v w : LinesPartView) (step : Step) : Type 0 where
  pub stamp : ℕ
  pub added : IsAdded v w stamp (bare_entry step)

-- the oldest item that waits on a connection was lifted, with a stamp that was drawn, and needs no key
pub record HasLifted (v w : LinesPartView) (line : ℕ) (hand : Hand) : Type 0 where
  pub stamp : ℕ
  pub could : lift_refusal v line ≡ None
  pub item_is : next_on v.lines line ≡ Some hand.item
  pub added : IsAdded v w stamp (carried_entry (Lift (Line line)) hand.item)
  pub key_is : hand.key ≡ None
  pub named : hand.is_named ≡ true
