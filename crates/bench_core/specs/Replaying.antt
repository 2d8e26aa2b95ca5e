-- Of which steps the entry that may follow is determined, and what adding the entry of work leaves.
use Rattle.std.specs.Prelude.{◌≡◌, ◌-◌, ℕ, List, length, slice_get, Option, None, Some}
use Rattle.std.specs.Option.{option_and_then}
use Rattle.bench_item.specs.declared.entry.Entry.{Entry}
use Rattle.bench_item.specs.declared.entry.Handled.{Handled}
use Rattle.bench_item.specs.declared.item.Item.{Item}
use Rattle.bench_item.specs.declared.item.Item.TheVariants.{ToMachine}
use Rattle.bench_item.specs.declared.item.MachineItem.{MachineItem}
use Rattle.bench_item.specs.declared.step.Step.{Step}
use Rattle.bench_item.specs.declared.step.Step.TheVariants.{Work}
use Rattle.bench_spec.specs.Legal.{MayFollow}
use Rattle.bench_spec.specs.Settings.{Settings}
use Rattle.acct_book.specs.Book.{Book, Paged}
use Rattle.bench_move.specs.Tables.{Tables}
use Rattle.bench_queue.specs.Inbox.{next_in}
use Rattle.bench_shard.specs.View.{ShardView}
use Rattle.bench_shard.specs.Works.{BecomesIn}
use Rattle.bench_undo.specs.declared.undo.Undo.{Undo}
use Rattle.bench_core.specs.Working.{IsDone}

-- a step that works no shard
abbrev pub IsCarried : Step → Type 0
IsCarried (Work shard) = ⊥
IsCarried step = Unit {0}

-- one entry of the step at most may follow
abbrev pub IsSingle : Settings → List Entry → Step → Type 0
IsSingle settings log step =
    (e f : Entry) → e.step ≡ step → f.step ≡ step → MayFollow settings log e → MayFollow settings log f → e ≡ f

-- the item that the last entry carries
abbrev pub last_item : List Entry → Option Item
last_item log = option_and_then (λ e. e.item) (slice_get log (length log - 1))

-- the item for a machine and what became of it, where both are there
abbrev pub work_parts : Option Item → Option Handled → Option (MachineItem × Handled)
work_parts (Some (ToMachine item)) (Some handled) = Some (item, handled)
work_parts item handled = None

-- the oldest item of a shard is another one, or becomes something else
abbrev pub IsAnother : Tables → Book → ShardView → MachineItem → Handled → Type 0
IsAnother tables book v item handled = next_in v.inbox ≡ Some item → BecomesIn tables book v item handled → ⊥

-- work is done on this item, and this became of it
pub record IsRedone (tables : Tables) (shard page : ℕ) (item : MachineItem) (handled : Handled) (v w : ShardView)
    (p q : Paged) (log logged : List Entry)
    (undos undone : List Undo) : Type 0 where
  pub done : IsDone tables shard page v w p q log logged undos undone
  pub item_is : done.work.item ≡ item
  pub handled_is : done.work.handled ≡ handled
