-- What a shard does with its oldest item, and how that is taken back.
use Rattle.std.specs.Prelude.{◌≡◌, false, List, [], IsTrue, IsFalse, Option, Some, None}
use Rattle.acct_book.specs.Book.{Book}
use Rattle.acct_totals.specs.declared.op.Op.{Op}
use Rattle.tab_law.specs.Books.{Laws}
use Rattle.tab_step.specs.declared.machine.MachineState.{MachineState}
use Rattle.bench_item.specs.Keys.{node_of}
use Rattle.bench_item.specs.declared.entry.Handled.{Handled}
use Rattle.bench_item.specs.declared.entry.Handled.TheVariants as handled
use Rattle.bench_item.specs.declared.item.Item.{Item}
use Rattle.bench_item.specs.declared.item.MachineItem.{MachineItem}
use Rattle.bench_move.specs.Moves.{IsMoveOf, ops_for}
use Rattle.bench_move.specs.Tables.{Tables, table_of}
use Rattle.bench_queue.specs.Inbox.{next_in, unworked_one, worked_one}
use Rattle.bench_queue.specs.Outbox.{put_out, without_out}
use Rattle.bench_spec.specs.Items.{handled_posts}
use Rattle.bench_spec.specs.Machines.{holds, is_busy}
use Rattle.bench_shard.specs.Settling.{names_left, states_left, unsettled_names, unsettled_states}
use Rattle.bench_shard.specs.View.{ShardView, lacks_room, number_for, state_for}
use Rattle.bench_shard.specs.declared.work.Effects.{Effects}
use Rattle.bench_shard.specs.declared.work.ShardRecord.{ShardRecord}
use Rattle.bench_shard.specs.declared.work.Work.{Work}

-- what becomes of an item: busy exactly where there is no room for its machine, else stale exactly where its condition
-- fails, else a move of its machine, from where that stands, by the laws, the table of its role and what the book says
abbrev pub BecomesIn : Tables → Book → ShardView → MachineItem → Handled → Type 0
BecomesIn tables book v item handled.TooBusy = IsTrue (lacks_room v item.key)
BecomesIn tables book v item (handled.Stale state) =
    IsFalse (lacks_room v item.key) × IsFalse (holds item.condition (state_for v item.key))
    × (state ≡ (state_for v item.key).state)
BecomesIn tables book v item (handled.Move moved) =
    IsFalse (lacks_room v item.key) × IsTrue (holds item.condition (state_for v item.key))
    × IsMoveOf tables.laws (table_of tables item.key.role) book (number_for v item.key)
    (state_for v item.key) item moved

-- the operations of the account book that a handled item leads to
abbrev pub ops_in : Laws → MachineItem → Handled → List Op
ops_in laws item (handled.Move moved) = ops_for laws item moved
ops_in laws item handled = []

-- what a handled item posts, and what it asks of the account book
pub record AreEffects (laws : Laws) (v : ShardView) (item : MachineItem) (handled : Handled)
    (effects : Effects) : Type 0 where
  pub posts : effects.posts.items ≡ handled_posts (node_of laws v.peers) handled item
  pub ops : effects.ops ≡ ops_in laws item handled

-- the item is the oldest, and its machine has room unless it is too busy
pub record Fits (v : ShardView) (item : MachineItem) (handled : Handled) : Type 0 where
  pub item_is : next_in v.inbox ≡ Some item
  pub room : is_busy handled ≡ false → lacks_room v item.key ≡ false

-- the oldest item with what becomes of it and what that leads to
pub record IsWork (tables : Tables) (book : Book) (v : ShardView) (work : Work) : Type 0 where
  pub fits : Fits v work.item work.handled
  pub becomes : BecomesIn tables book v work.item work.handled
  pub effects : AreEffects tables.laws v work.item work.handled work.effects

-- where the machine of a handled item comes to stand; nowhere where it was too busy
abbrev pub state_left : ShardView → MachineItem → Handled → Option MachineState
state_left v item handled.TooBusy = None
state_left v item (handled.Stale state) = Some (state_for v item.key)
state_left v item (handled.Move moved) = Some moved.after

-- the shard once an item was handled: its machine comes to stand where that leaves it, and what that posts is put out
abbrev pub after_work : ShardView → MachineItem → Handled → List Item → ShardView
after_work v item handled posts = record v {
  names = names_left v.names item.key (state_left v item handled);
  states = states_left v.names v.states item.key (state_left v item handled);
  inbox = worked_one v.inbox;
  outbox = put_out v.outbox posts;
}

-- the shard as it was before
abbrev pub taken_back : ShardRecord → ShardView → ShardView
taken_back r v = record v {
  names = unsettled_names r.settled v.names;
  states = unsettled_states r.settled v.states;
  inbox = unworked_one v.inbox;
  outbox = without_out v.outbox r.posted;
}
