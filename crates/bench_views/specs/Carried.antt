-- What one more entry without a move makes of the parts of a bench.
use Rattle.std.specs.Prelude.{ℕ, ◌+◌, ◌++◌, List, length, if◌then◌else◌, filter, flat_map, option_to_list, []}
use Rattle.bench_item.specs.declared.entry.Entry.{Entry}
use Rattle.bench_item.specs.declared.item.Item.{Item}
use Rattle.bench_item.specs.declared.item.MachineItem.{MachineItem}
use Rattle.bench_item.specs.declared.source.Source.{Source}
use Rattle.bench_item.specs.declared.source.Source.TheVariants.{Clock, Desk, Shard}
use Rattle.bench_item.specs.Keys.{Node}
use Rattle.bench_queue.specs.Inbox.{InboxView}
use Rattle.bench_queue.specs.Outbox.{OutboxView}
use Rattle.bench_spec.specs.Items.{desk_posts, is_drop, is_drop_from, is_firing, is_lift}
use Rattle.bench_spec.specs.Machines.{is_for, is_work, machine_item}
use Rattle.bench_shard.specs.View.{ShardView}

-- what an entry lifts from a source, drops from it, drops into a shard, and handles there
abbrev pub lifts : Source → Entry → List Item
lifts source e = if is_lift source e.step then option_to_list e.item else []

abbrev pub drops : Source → Entry → List Item
drops source e = if is_drop_from source e.step then option_to_list e.item else []

abbrev pub arrives : Node → ℕ → Entry → List MachineItem
arrives node shard e =
    if is_drop e.step then filter (is_for node shard) (flat_map machine_item (option_to_list e.item)) else []

abbrev pub works : ℕ → Entry → List MachineItem
works shard e = if is_work shard e.step then flat_map machine_item (option_to_list e.item) else []

-- what a desk or the clock puts out in an entry
abbrev pub gives : Source → Entry → List Item
gives (Desk desk) e = desk_posts desk e.step
gives Clock e = if is_firing e.step then option_to_list e.item else []
gives source e = []

-- an outbox behind an entry: more was put out, lifted, dropped
abbrev pub carried_out : Source → Entry → OutboxView → OutboxView
carried_out source e v = record {
  posts = v.posts ++ gives source e;
  lifted = v.lifted + length (lifts source e);
  dropped = v.dropped + length (drops source e);
}

-- an inbox behind an entry: more came
abbrev pub carried_in : Node → ℕ → Entry → InboxView → InboxView
carried_in node shard e v = record { items = v.items ++ arrives node shard e; worked = v.worked }

-- a shard behind an entry
abbrev pub carried_shard : Node → Entry → ShardView → ShardView
carried_shard node e v =
    record v { inbox = carried_in node v.number e v.inbox; outbox = carried_out (Shard v.number) e v.outbox }
