-- The parts of a bench from which items are carried on.
use Rattle.std.specs.Prelude.{◌≡◌, suc, true, List, Some, map, slice_get}
use Rattle.bench_item.specs.declared.source.Source.{Source}
use Rattle.bench_item.specs.declared.source.Source.TheVariants.{Clock, Desk, Line, Shard}
use Rattle.bench_line.specs.Line.{LineView}
use Rattle.bench_queue.specs.Outbox.{OutboxState, OutboxView, can_lift}
use Rattle.bench_shard.specs.View.{ShardView}
use Rattle.bench_views.specs.Stored.{Stored}

-- the outboxes without their room
abbrev pub views_of : List OutboxState → List OutboxView
views_of outboxes = map (λ o. o.view) outboxes

-- the parts with these shards, outboxes and lines
abbrev pub with_seen : Stored → List ShardView → List OutboxState → List LineView → Stored
with_seen s shards outboxes lines = record s { shards = shards; outboxes = views_of outboxes; lines = lines }

-- the source has an outbox, from which an item can be lifted; of lines their crate tells
abbrev pub CanBeLifted : Source → List ShardView → List OutboxState → Type 0
CanBeLifted (Line line) shards outboxes = Unit {0}
CanBeLifted (Shard shard) shards outboxes =
    (v : ShardView) × (slice_get shards shard ≡ Some v) × (can_lift v.outbox ≡ true)
CanBeLifted (Desk desk) shards outboxes =
    (o : OutboxState) × (slice_get outboxes (suc desk) ≡ Some o) × (can_lift o.view ≡ true)
CanBeLifted Clock shards outboxes = (o : OutboxState) × (slice_get outboxes 0 ≡ Some o) × (can_lift o.view ≡ true)
