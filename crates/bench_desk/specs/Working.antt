-- What a shard's part becomes where it handles its oldest item, and where what it put out is lifted.
use Rattle.std.specs.Prelude.{◌≡◌, ◌/◌, ◌%◌, ◌==◌, ℕ, Bool, List, [], ◌∷◌, ◌++◌, fold, Option, Some, None}
use Rattle.std.specs.Prelude.{option_map, slice_get, if◌then◌else◌}
use Rattle.acct_book.specs.Book.{Paged, after}
use Rattle.bench_item.specs.declared.entry.Entry.{Entry}
use Rattle.bench_item.specs.declared.entry.Handled.{Handled}
use Rattle.bench_item.specs.declared.item.Item.{Item}
use Rattle.bench_item.specs.declared.item.Item.TheVariants.{ToMachine}
use Rattle.bench_item.specs.declared.item.MachineItem.{MachineItem}
use Rattle.bench_item.specs.declared.key.Key.{Key}
use Rattle.bench_item.specs.declared.limit.TheConstants.{MAX_MACHINES}
use Rattle.bench_item.specs.declared.source.Source.TheVariants.{Shard}
use Rattle.bench_item.specs.declared.step.Step.TheVariants.{Lift, Work as WorkStep}
use Rattle.bench_move.specs.Tables.{Tables}
use Rattle.bench_queue.specs.Outbox.{OutboxView, dropped_one, items_out, lifted_one, next_out}
use Rattle.bench_move.specs.Moves.{Holds}
use Rattle.bench_shard.specs.Names.{key_in}
use Rattle.bench_shard.specs.Refusal.{work_refusal as shard_refusal}
use Rattle.bench_shard.specs.View.{ShardView, with_outbox, with_paused}
use Rattle.bench_shard.specs.Works.{IsWork, after_work}
use Rattle.bench_shard.specs.declared.fault.WorkFault.{WorkFault}
use Rattle.bench_shard.specs.declared.fault.WorkFault.TheVariants as faults
use Rattle.bench_shard.specs.declared.work.Work.{Work}
use Rattle.bench_spec.specs.Refusal.{is_empty, is_log_full}
use Rattle.bench_desk.specs.Parts.{PartView, entries_in}
use Rattle.bench_desk.specs.declared.fault.CarryFault.{CarryFault}
use Rattle.bench_desk.specs.declared.fault.CarryFault.TheVariants.{Nothing, Full}

-- the entry in which a shard handles an item, and the one in which an item is lifted from it
abbrev pub work_entry : ℕ → MachineItem → Handled → Entry
work_entry shard item handled = record { step = WorkStep shard; item = Some (ToMachine item); handled = Some handled }

abbrev pub lift_entry : ℕ → Item → Entry
lift_entry shard item = record { step = Lift (Shard shard); item = Some item; handled = None }

-- why a part does not work, memory aside: what stands in the shard's way, and then that the part has as many entries as
-- it may
abbrev pub or_full : Bool → Option WorkFault → Option WorkFault
or_full full (Some fault) = Some fault
or_full full None = if full then Some faults.Full else None

abbrev pub work_refusal : PartView → Option WorkFault
work_refusal v = or_full (is_log_full (entries_in v)) (shard_refusal v.shard)

-- what is written where work is done: the shard, the page, the entry and its stamp
pub record IsWritten (work : Work) (stamp : ℕ) (v w : ShardView) (p q : Paged) (log logged : List Entry)
    (stamps drawn : List ℕ) : Type 0 where
  pub shard_is : w ≡ after_work v work.item work.handled work.effects.posts.items
  pub page_is : Holds p q (fold after p.book work.effects.ops)
  pub log_is : logged ≡ log ++ work_entry v.number work.item work.handled ∷ []
  pub stamps_are : drawn ≡ stamps ++ stamp ∷ []

-- nothing is written
pub record IsUnwritten (v w : ShardView) (p q : Paged) (log logged : List Entry) (stamps drawn : List ℕ) : Type 0 where
  pub shard_is : w ≡ v
  pub page_is : Holds p q p.book
  pub log_is : logged ≡ log
  pub stamps_are : drawn ≡ stamps

-- work is done on what the shard is to do next
pub record IsDone (tables : Tables) (stamp : ℕ) (v w : ShardView) (p q : Paged) (log logged : List Entry)
    (stamps drawn : List ℕ) : Type 0 where
  pub work : Work
  pub decided : IsWork tables p.book v work
  pub written : IsWritten work stamp v w p q log logged stamps drawn

-- the part once it handled its oldest item: its machine came to stand where that left it, what that posts was put out,
-- and just that entry was added
abbrev pub with_work : PartView → ℕ → Work → PartView
with_work v stamp work = record {
  tables = v.tables;
  shard = after_work v.shard work.item work.handled work.effects.posts.items;
  entries = v.entries ++ record { stamp = stamp; entry = work_entry v.shard.number work.item work.handled } ∷ [];
}

-- it handled its oldest item with that page: this became of it by the tables, the laws and what the page says, and the
-- page did what that asks
pub record IsWorked (v w : PartView) (p q : Paged) (stamp : ℕ) : Type 0 where
  pub work : Work
  pub decided : IsWork v.tables p.book v.shard work
  pub part_is : w ≡ with_work v stamp work
  pub page_is : Holds p q (fold after p.book work.effects.ops)

-- an outbox once its oldest item was lifted into the hand and taken out of it
abbrev pub taken_out : OutboxView → OutboxView
taken_out v = dropped_one (lifted_one v)

-- what is written where an item is lifted: the shard, the entry and its stamp
pub record IsLifted (stamp : ℕ) (v w : ShardView) (log logged : List Entry) (stamps drawn : List ℕ) : Type 0 where
  pub item : Item
  pub item_is : next_out v.outbox ≡ Some item
  pub shard_is : w ≡ with_outbox v (taken_out v.outbox)
  pub log_is : logged ≡ log ++ lift_entry v.number item ∷ []
  pub stamps_are : drawn ≡ stamps ++ stamp ∷ []

-- the part once its oldest item was lifted: it is out of the hand, and just that entry was added
abbrev pub with_lift : PartView → ℕ → Item → PartView
with_lift v stamp item = record {
  tables = v.tables;
  shard = with_outbox v.shard (taken_out v.shard.outbox);
  entries = v.entries ++ record { stamp = stamp; entry = lift_entry v.shard.number item } ∷ [];
}

-- why nothing is lifted, memory aside: none waits, or the part has as many entries as it may
abbrev pub lift_refusal : PartView → Option CarryFault
lift_refusal v =
    if is_empty (items_out v.shard.outbox) then Some Nothing
    else (if is_log_full (entries_in v) then Some Full else None)

-- the part, paused or not
abbrev pub paused_part : PartView → Bool → PartView
paused_part v paused = record { tables = v.tables; shard = with_paused v.shard paused; entries = v.entries }

-- the machine of a number, if it is one of the shard's
abbrev pub key_in_part : PartView → ℕ → Option Key
key_in_part v machine =
    if machine / MAX_MACHINES == v.shard.number
    then option_map key_in (slice_get v.shard.names (machine % MAX_MACHINES))
    else None
