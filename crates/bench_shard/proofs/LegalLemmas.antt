-- What becomes of the oldest item is what the log allows.
use Rattle.std.proofs.Common.{◌≡◌, ℕ, Bool, List, Option, Some, sym, ap, subst, ◌∙◌, refl}
use Rattle.std.specs.Prelude.{IsTrue, IsFalse, if◌then◌else◌}
use Rattle.acct_book.specs.Book.{Book}
use Rattle.charge_session.specs.declared.want.Want.{Want}
use Rattle.tab_step.specs.declared.machine.MachineState.{MachineState}
use Rattle.tab_text.specs.Contents.{Contents}
use Rattle.bench_item.specs.declared.entry.Entry.{Entry}
use Rattle.bench_item.specs.declared.entry.Handled.{Handled}
use Rattle.bench_item.specs.declared.entry.Handled.TheVariants as handled
use Rattle.bench_item.specs.declared.entry.Moved.{Moved}
use Rattle.bench_item.specs.declared.item.MachineItem.{MachineItem}
use Rattle.bench_item.specs.declared.key.Role.{Role}
use Rattle.bench_item.specs.declared.key.Role.TheVariants.{Peer, Client, Server}
use Rattle.bench_item.specs.Keys.{home, node_of}
use Rattle.bench_move.proofs.NextLemmas as next
use Rattle.bench_move.specs.Moves.{IsMoveOf}
use Rattle.bench_move.specs.Tables as tables
use Rattle.bench_queue.specs.Inbox.{next_in}
use Rattle.bench_spec.specs.Booked.{book_at, want_of}
use Rattle.bench_spec.specs.Legal.{BecomesOf, finds_no_room}
use Rattle.bench_spec.specs.Machines as logged
use Rattle.bench_spec.specs.Settings.{Settings, table_of}
use Rattle.bench_shard.proofs.ViewLemmas.{no-room, number-for, own-item, state-for}
use Rattle.bench_shard.specs.declared.task.Fate.TheVariants.{Busy, Stale, Moves}
use Rattle.bench_shard.specs.Stands.{BecomesAsLogged, PostsAsLogged, SaysTheSame, Stands, tables_of}
use Rattle.bench_shard.specs.Tasks.{want_by, wanted}
use Rattle.bench_shard.specs.View.{ShardView, lacks_room, number_for, state_for}
use Rattle.bench_shard.specs.Works.{BecomesIn}

table-same : (settings : Settings) (role : Role) → tables.table_of (tables_of settings) role ≡ table_of settings role
table-same settings Peer = refl
table-same settings Client = refl
table-same settings Server = refl

-- an item that moves its machine wants what it asks
wanted-moves : (settings : Settings) (v : ShardView) (item : MachineItem) → IsFalse (lacks_room v item.key) → IsTrue (logged.holds item.condition (state_for v item.key))
    → wanted settings.node.laws v item ≡ want_of settings.node.laws item (state_for v item.key)
wanted-moves settings v item room met =
    ap (λ (b : Bool). want_by (if b then Busy else (if logged.holds item.condition (state_for v item.key) then Moves else Stale)) settings.node.laws v item) room
    ∙ ap (λ (b : Bool). want_by (if b then Moves else Stale) settings.node.laws v item) met

-- the machine of the oldest item, as the shard has it and as the log does
record Alike (settings : Settings) (log : List Entry) (v : ShardView) (item : MachineItem) : Type 0 where
  room : finds_no_room settings log item.key ≡ lacks_room v item.key
  number : logged.number_for settings.node log item.key ≡ number_for v item.key
  state : logged.state_at settings.node log item.key ≡ state_for v item.key

alike : (settings : Settings) (log : List Entry) (v : ShardView) (item : MachineItem) → Stands settings log v → next_in v.inbox ≡ Some item → Alike settings log v item
alike settings log v item S e =
    let here : home settings.node.shards item.key.name ≡ v.number = own-item settings log v item S e in
    record {
      room = no-room settings log v item.key S here;
      number = number-for settings log v item.key S here;
      state = state-for settings log v item.key S here;
    }

-- the books say the same to what the item asks, as the shard has its machine and as the log does
says : (settings : Settings) (log : List Entry) (v : ShardView) (book : Book) (item : MachineItem) → Alike settings log v item → SaysTheSame book (book_at settings log) (wanted settings.node.laws v item)
    → IsFalse (lacks_room v item.key) → IsTrue (logged.holds item.condition (state_for v item.key)) → next.SaysTheSame (want_of settings.node.laws item (logged.state_at settings.node log item.key)) book (book_at settings log)
says settings log v book item A same room met =
    let want : wanted settings.node.laws v item ≡ want_of settings.node.laws item (logged.state_at settings.node log item.key) =
    wanted-moves settings v item room met ∙ ap (want_of settings.node.laws item) (sym A.state) in
    subst (λ (w : Option Want). next.SaysTheSame w book (book_at settings log)) want (record { event = same.event; outcomes = same.outcomes })

-- a move, as the shard has its machine and as the log does
move-same : (settings : Settings) (log : List Entry) (v : ShardView) (book : Book) (item : MachineItem) (moved : Moved) → Alike settings log v item
    → IsMoveOf settings.node.laws (tables.table_of (tables_of settings) item.key.role) book (number_for v item.key) (state_for v item.key) item moved
    ≡ IsMoveOf settings.node.laws (table_of settings item.key.role) book (logged.number_for settings.node log item.key) (logged.state_at settings.node log item.key) item moved
move-same settings log v book item moved A =
    ap (λ (t : Contents). IsMoveOf settings.node.laws t book (number_for v item.key) (state_for v item.key) item moved) (table-same settings item.key.role)
    ∙ ap (λ (n : ℕ). IsMoveOf settings.node.laws (table_of settings item.key.role) book n (state_for v item.key) item moved) (sym A.number)
    ∙ ap (λ (x : MachineState). IsMoveOf settings.node.laws (table_of settings item.key.role) book (logged.number_for settings.node log item.key) x item moved) (sym A.state)

to-log : (settings : Settings) (log : List Entry) (v : ShardView) (book : Book) (item : MachineItem) (handled : Handled) → Alike settings log v item
    → SaysTheSame book (book_at settings log) (wanted settings.node.laws v item) → BecomesIn (tables_of settings) book v item handled → BecomesOf settings log item handled
to-log settings log v book item handled.TooBusy A same becomes = A.room ∙ becomes
to-log settings log v book item (handled.Stale state) A same becomes =
    (A.room ∙ becomes.0, ap (logged.holds item.condition) A.state ∙ becomes.1, becomes.2 ∙ ap (λ (x : MachineState). x.state) (sym A.state))
to-log settings log v book item (handled.Move moved) A same becomes = (
  A.room ∙ becomes.0,
  ap (logged.holds item.condition) A.state ∙ becomes.1,
  next.MovesNext-from_move settings log item book moved (says settings log v book item A same becomes.0 becomes.1)
      (subst (λ (T : Type 0). T) (move-same settings log v book item moved A) becomes.2),
)

from-log : (settings : Settings) (log : List Entry) (v : ShardView) (book : Book) (item : MachineItem) (handled : Handled) → Alike settings log v item
    → SaysTheSame book (book_at settings log) (wanted settings.node.laws v item) → BecomesOf settings log item handled → BecomesIn (tables_of settings) book v item handled
from-log settings log v book item handled.TooBusy A same becomes = sym A.room ∙ becomes
from-log settings log v book item (handled.Stale state) A same becomes =
    (sym A.room ∙ becomes.0, ap (logged.holds item.condition) (sym A.state) ∙ becomes.1, becomes.2 ∙ ap (λ (x : MachineState). x.state) A.state)
from-log settings log v book item (handled.Move moved) A same becomes =
    let room : IsFalse (lacks_room v item.key) = sym A.room ∙ becomes.0 in
    let met : IsTrue (logged.holds item.condition (state_for v item.key)) = ap (logged.holds item.condition) (sym A.state) ∙ becomes.1 in (
      room,
      met,
      subst (λ (T : Type 0). T) (sym (move-same settings log v book item moved A))
          (next.move-from_MovesNext settings log item book moved (says settings log v book item A same room met) becomes.2),
    )

pub becomes-logged : BecomesAsLogged
becomes-logged settings log v book item handled S e same =
    let A = alike settings log v item S e in
    (to-log settings log v book item handled A same, from-log settings log v book item handled A same)

pub posts-logged : PostsAsLogged
posts-logged settings log v S = ap (node_of settings.node.laws) S.peers
