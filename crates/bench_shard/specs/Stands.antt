-- A shard is what the log says.
use Rattle.std.specs.Prelude.{◌≡◌, ◌<◌, ◌↔◌, List, length, map, Option, Some}
use Rattle.acct_book.specs.Book.{Book}
use Rattle.charge_session.specs.declared.want.Want.{Want}
use Rattle.tab_law.specs.declared.scene.Deed.{Deed}
use Rattle.tab_step.specs.declared.machine.Event.{Event}
use Rattle.bench_item.specs.declared.entry.Entry.{Entry}
use Rattle.bench_item.specs.declared.entry.Handled.{Handled}
use Rattle.bench_item.specs.declared.item.MachineItem.{MachineItem}
use Rattle.bench_item.specs.declared.source.Source.TheVariants.{Shard}
use Rattle.bench_item.specs.Keys.{Node, node_of}
use Rattle.bench_move.specs.Tables.{Tables}
use Rattle.bench_queue.specs.Inbox.{next_in}
use Rattle.bench_spec.specs.Booked.{book_at, event_with_quote, outcomes_for}
use Rattle.bench_spec.specs.Items.{arrived, dropped, lifted, posts, worked}
use Rattle.bench_spec.specs.Legal.{BecomesOf}
use Rattle.bench_spec.specs.Machines.{directory, state_at}
use Rattle.bench_spec.specs.Settings.{Settings}
use Rattle.bench_shard.specs.Names.{key_octets}
use Rattle.bench_shard.specs.Tasks.{wanted}
use Rattle.bench_shard.specs.View.{ShardView}
use Rattle.bench_shard.specs.Works.{BecomesIn}

-- its machines are those of the directory, each stands as its moves left it
pub record HasMachines (node : Node) (log : List Entry) (v : ShardView) : Type 0 where
  pub names : v.names ≡ map key_octets (directory node v.number log)
  pub states : v.states ≡ map (state_at node log) (directory node v.number log)

-- the shard of that number after these entries, whether it is paused or not: its machines are those of the directory,
-- each stands as its moves left it, what came and was handled, was put out, lifted and dropped is what the entries say
pub record Stands (settings : Settings) (log : List Entry) (v : ShardView) : Type 0 where
  pub here : v.number < settings.node.shards
  pub peers : v.peers ≡ record { hosts = settings.node.peers; shards = settings.node.shards }
  pub names : v.names ≡ map key_octets (directory settings.node v.number log)
  pub states : v.states ≡ map (state_at settings.node log) (directory settings.node v.number log)
  pub inbox : v.inbox ≡ record { items = arrived settings.node log v.number; worked = length (worked log v.number) }
  pub outbox : v.outbox ≡ record {
    posts = posts settings log (Shard v.number);
    lifted = length (lifted log (Shard v.number));
    dropped = length (dropped log (Shard v.number));
  }

-- the laws and the tables of the settings
abbrev pub tables_of : Settings → Tables
tables_of settings =
    record { laws = settings.node.laws; peer = settings.peer; client = settings.client; server = settings.server }

-- two books say the same to what is asked, and allow the same
pub record SaysTheSame (book other : Book) (want : Option Want) : Type 0 where
  pub event : (event : Event) → event_with_quote book want event ≡ event_with_quote other want event
  pub outcomes : (deeds : List Deed) → outcomes_for book want deeds ≡ outcomes_for other want deeds

-- The law of a shard that is what a log says, with a page of the account book that says to what its oldest item asks
-- the same as the whole book: what becomes of the item is what the log allows, and nothing else.
abbrev pub BecomesAsLogged : Type 0
BecomesAsLogged =
    (settings : Settings) (log : List Entry) (v : ShardView) (book : Book) (item : MachineItem) (handled : Handled)
    → Stands settings log v → next_in v.inbox ≡ Some item
    → SaysTheSame book (book_at settings log) (wanted settings.node.laws v item)
    → BecomesIn (tables_of settings) book v item handled ↔ BecomesOf settings log item handled

-- and what it posts is what the log says
abbrev pub PostsAsLogged : Type 0
PostsAsLogged =
    (settings : Settings) (log : List Entry) (v : ShardView)
    → Stands settings log v → node_of settings.node.laws v.peers ≡ settings.node
