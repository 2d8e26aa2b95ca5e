-- The plain values that the kept ones are.
use Rattle.bench_item.specs.declared.item.Item.{Item}
use Rattle.bench_item.specs.declared.item.LineItem.{LineItem}
use Rattle.bench_item.specs.declared.item.Item.TheVariants as plain
use Rattle.bench_item.specs.declared.step.Step.{Step}
use Rattle.bench_item.specs.declared.step.Step.TheVariants as steps
use Rattle.bench_item.specs.declared.entry.Handled.{Handled}
use Rattle.bench_item.specs.declared.entry.Handled.TheVariants as handled
use Rattle.bench_log.specs.declared.item.KeptLineItem.{KeptLineItem}
use Rattle.bench_log.specs.declared.item.ItemForm.{ItemForm}
use Rattle.bench_log.specs.declared.item.ItemForm.TheVariants.{ToMachine, ToLine, Dial, Undial, Arm, Disarm}
use Rattle.bench_log.specs.declared.step.KeptTold.{KeptTold}
use Rattle.bench_log.specs.declared.step.KeptStep.{KeptStep}
use Rattle.bench_log.specs.declared.step.KeptStep.TheVariants.{Joined, Dialled, Came, Lost, Told, Fired}
use Rattle.bench_log.specs.declared.step.KeptStep.TheVariants.{Lift, Drop, Work}
use Rattle.bench_log.specs.declared.entry.HandledForm.{HandledForm}
use Rattle.bench_log.specs.declared.entry.HandledForm.TheVariants.{TooBusy, Stale, Move}

-- an item for a connection
abbrev pub line_item_of : KeptLineItem → LineItem
line_item_of k = k.form.value

-- an item
abbrev pub item_of : ItemForm → Item
item_of (ToMachine k) = plain.ToMachine k
item_of (ToLine k) = plain.ToLine (line_item_of k)
item_of (Dial peer generation) = plain.Dial peer generation
item_of (Undial peer generation) = plain.Undial peer generation
item_of (Arm machine generation ticks) = plain.Arm machine generation ticks
item_of (Disarm machine) = plain.Disarm machine

-- what a desk told, as a step
abbrev pub told_of : KeptTold → Step
told_of k = steps.Told k.desk k.key k.event

-- a step
abbrev pub step_of : KeptStep → Step
step_of Joined = steps.Joined
step_of (Dialled line) = steps.Dialled line
step_of (Came line piece) = steps.Came line piece
step_of (Lost line) = steps.Lost line
step_of (Told told) = told_of told.value
step_of (Fired machine generation) = steps.Fired machine generation
step_of (Lift source) = steps.Lift source
step_of (Drop source) = steps.Drop source
step_of (Work shard) = steps.Work shard

-- what became of an item that was handled
abbrev pub handled_of : HandledForm → Handled
handled_of TooBusy = handled.TooBusy
handled_of (Stale state) = handled.Stale state
handled_of (Move moved) = handled.Move moved.value
