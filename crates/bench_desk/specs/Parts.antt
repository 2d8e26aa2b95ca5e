-- A shard with the stamped entries of what was done to it.
use Rattle.std.specs.Prelude.{◌≡◌, ◌-◌, ◌||◌, ℕ, Bool, List, [], ◌∷◌, ◌++◌, filter, length, map}
use Rattle.std.specs.Prelude.{Some, None, if◌then◌else◌}
use Rattle.bench_item.specs.Keys.{Node, node_of}
use Rattle.bench_item.specs.Steps.{is_same_source}
use Rattle.bench_item.specs.declared.entry.Entry.{Entry}
use Rattle.bench_item.specs.declared.item.Item.TheVariants.{ToMachine}
use Rattle.bench_item.specs.declared.item.MachineItem.{MachineItem}
use Rattle.bench_item.specs.declared.source.Source.{Source}
use Rattle.bench_item.specs.declared.source.Source.TheVariants.{Desk}
use Rattle.bench_item.specs.declared.step.Step.TheVariants.{Drop}
use Rattle.bench_move.specs.Tables.{Tables}
use Rattle.bench_queue.specs.Inbox.{InboxView, items_in, put_in}
use Rattle.bench_shard.specs.Stands.{HasMachines}
use Rattle.bench_shard.specs.View.{ShardView, with_inbox}
use Rattle.bench_desk.specs.Runs.{AreRuns}
use Rattle.bench_shard.specs.declared.fault.PutError.{PutError}
use Rattle.bench_shard.specs.declared.fault.PutError.TheVariants.{Full, NoMemory}
use Rattle.bench_spec.specs.Items.{arrived, worked}
use Rattle.bench_spec.specs.Merged.{Stamped, arrivals, handled_of}
use Rattle.bench_spec.specs.Refusal.{is_crowded, is_log_full}

-- a shard with its tables and laws, and the entries of its part of the log, each with its stamp
pub record PartView : Type 0 where
  pub tables : Tables
  pub shard : ShardView
  pub entries : List Stamped

-- the entries alone
abbrev pub entries_in : PartView → List Entry
entries_in v = map (λ s. s.entry) v.entries

-- what its places and kinds depend on
abbrev pub node_in : PartView → Node
node_in v = node_of v.tables.laws v.shard.peers

-- a shard is what its part of the log says: what came and how much of it was worked; its machines, each where its last
-- move left it, and of each the moves are a run of its role's table; and what is kept beside it: who put each item
-- there
pub record IsKept (tables : Tables) (v : ShardView) (sources : List Source) (log : List Entry) : Type 0 where
  pub inbox : v.inbox
      ≡ record { items = arrived (node_of tables.laws v.peers) log v.number; worked = length (worked log v.number) }
  pub machines : HasMachines (node_of tables.laws v.peers) log v
  pub runs : AreRuns tables v.peers log
  pub sources_are : sources ≡ map (λ p. p.0) (arrivals (node_of tables.laws v.peers) log v.number)

-- the entry of an item that a source drops at a shard
abbrev pub drop_entry : Source → MachineItem → Entry
drop_entry source item = record { step = Drop source; item = Some (ToMachine item); handled = None }

-- what came to the shard, and how much of it was worked
abbrev pub inbox_by : PartView → InboxView
inbox_by v = record {
  items = arrived (node_in v) (entries_in v) v.shard.number;
  worked = length (worked (entries_in v) v.shard.number);
}

-- an item came from a source
abbrev pub with_arrival : PartView → Source → ℕ → MachineItem → PartView
with_arrival v source stamp item = record {
  tables = v.tables;
  shard = with_inbox v.shard (put_in v.shard.inbox (item ∷ []));
  entries = v.entries ++ record { stamp = stamp; entry = drop_entry source item } ∷ [];
}

-- whether no item may come: as many wait as may, or the part has as many entries as it may
abbrev pub is_full : PartView → Bool
is_full v = is_crowded (items_in v.shard.inbox) || is_log_full (entries_in v)

abbrev pub arrive_error : PartView → PutError
arrive_error v = if is_full v then Full else NoMemory

-- how many items a desk put there, and how many of these were handled
abbrev pub came_from : PartView → ℕ → ℕ
came_from v desk =
    length (filter (λ p. is_same_source (Desk desk) p.0) (arrivals (node_in v) (entries_in v) v.shard.number))

abbrev pub handled_from : PartView → ℕ → ℕ
handled_from v desk = length (handled_of (node_in v) (entries_in v) v.shard.number desk)

abbrev pub waiting_from : PartView → ℕ → ℕ
waiting_from v desk = came_from v desk - handled_from v desk
