-- The items in the hands of sources, and whether there is room where they are for.
use Rattle.std.specs.Prelude.{◌≡◌, ◌<◌, ℕ, nat_le, suc, true, Bool, false, List, Option, Some, length, slice_get, take}
use Rattle.std.specs.Option.{option_and_then, option_map_or}
use Rattle.bench_item.specs.Keys.{home}
use Rattle.bench_item.specs.declared.item.Item.{Item}
use Rattle.bench_item.specs.declared.item.Item.TheVariants.{Dial, ToMachine}
use Rattle.bench_item.specs.declared.key.Key.{Key}
use Rattle.bench_item.specs.declared.limit.TheConstants.{MAX_LINES}
use Rattle.bench_item.specs.declared.source.Source.{Source}
use Rattle.bench_item.specs.declared.source.Source.TheVariants.{Clock, Desk, Line, Shard}
use Rattle.bench_line.specs.Line.{LineView}
use Rattle.bench_line.specs.Lines.{lifted_on, line_at}
use Rattle.bench_queue.specs.Inbox.{items_in}
use Rattle.bench_queue.specs.Outbox.{OutboxState, has_hand}
use Rattle.bench_shard.specs.View.{ShardView}
use Rattle.bench_spec.specs.Refusal.{is_crowded}
use Rattle.bench_views.specs.Looks.{dropped_on}
use Rattle.bench_views.specs.Stored.{Stored}
use Rattle.bench_carry.specs.Seen.{views_of}

-- the parts with these shards, outboxes, lines, and counts of what was dropped of each line
abbrev pub with_hands : Stored → List ShardView → List OutboxState → List LineView → List ℕ → Stored
with_hands s shards outboxes lines carried = record s {
  shards = shards;
  outboxes = views_of outboxes;
  lines = lines;
  carried = carried;
}

-- the item in the hand of a line, if one is
abbrev pub hand_on : List LineView → List ℕ → ℕ → Option Item
hand_on lines carried line =
    option_and_then (λ count. option_and_then (λ l. slice_get (take l.lifted l.outbox) count) (line_at lines line))
    (dropped_on carried line)

-- as many items as may wait at the shard of a machine
abbrev pub is_home_crowded : List ShardView → Key → Bool
is_home_crowded shards key =
    option_map_or (λ v. is_crowded (items_in v.inbox)) (slice_get shards (home (length shards) key.name)) false

-- there is no room where the item is for
abbrev pub lacks_room : List ShardView → List LineView → Item → Bool
lacks_room shards lines (ToMachine item) = is_home_crowded shards item.key
lacks_room shards lines (Dial peer generation) = nat_le MAX_LINES (length lines)
lacks_room shards lines item = false

-- how many items of the line that is the source were lifted; of other sources the outbox tells
abbrev pub lifted_by : Source → List LineView → ℕ
lifted_by (Line line) lines = lifted_on lines line
lifted_by source lines = 0

-- the source has an item in its hand, where so many of its items were lifted if it is a line
abbrev pub Holds : Source → List ShardView → List OutboxState → ℕ → List ℕ → Type 0
Holds (Line line) shards outboxes lifted carried =
    (count : ℕ) × (dropped_on carried line ≡ Some count) × (count < lifted)
Holds (Shard shard) shards outboxes lifted carried =
    (v : ShardView) × (slice_get shards shard ≡ Some v) × (has_hand v.outbox ≡ true)
Holds (Desk desk) shards outboxes lifted carried =
    (o : OutboxState) × (slice_get outboxes (suc desk) ≡ Some o) × (has_hand o.view ≡ true)
Holds Clock shards outboxes lifted carried =
    (o : OutboxState) × (slice_get outboxes 0 ≡ Some o) × (has_hand o.view ≡ true)

-- the source has an item in its hand
abbrev pub CanBeDropped : Source → List ShardView → List OutboxState → List LineView → List ℕ → Type 0
CanBeDropped source shards outboxes lines carried = Holds source shards outboxes (lifted_by source lines) carried
