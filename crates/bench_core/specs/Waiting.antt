-- What waits at a source, and the machines of all shards, by what a world keeps.
use Rattle.std.specs.Prelude.{ℕ, suc, List, [], drop, Option, slice_get}
use Rattle.std.specs.Option.{option_map_or}
use Rattle.bench_item.specs.declared.item.Item.{Item}
use Rattle.bench_item.specs.declared.source.Source.{Source}
use Rattle.bench_item.specs.declared.source.Source.TheVariants.{Clock, Desk, Line, Shard}
use Rattle.bench_line.specs.Line.{LineView}
use Rattle.bench_line.specs.Lines.{line_at}
use Rattle.bench_queue.specs.Outbox.{OutboxView, items_out}
use Rattle.bench_shard.specs.View.{ShardView}
use Rattle.bench_views.specs.Stored.{Stored}

-- all that a connection put out, none where it is not there
abbrev pub put_out_on : List LineView → ℕ → List Item
put_out_on lines line = option_map_or (λ l. l.outbox) (line_at lines line) []

-- the items that wait on a connection, in an outbox and at a shard, none where it is not there
abbrev pub waiting_on : List LineView → ℕ → List Item
waiting_on lines line = option_map_or (λ l. drop l.lifted l.outbox) (line_at lines line) []

abbrev pub waiting_in : Option OutboxView → List Item
waiting_in outbox = option_map_or items_out outbox []

abbrev pub waiting_at : Option ShardView → List Item
waiting_at shard = option_map_or (λ v. items_out v.outbox) shard []

-- the items that wait at a source
abbrev pub waiting_of : Source → Stored → List Item
waiting_of (Line line) s = waiting_on s.lines line
waiting_of (Shard shard) s = waiting_at (slice_get s.shards shard)
waiting_of (Desk desk) s = waiting_in (slice_get s.outboxes (suc desk))
waiting_of Clock s = waiting_in (slice_get s.outboxes 0)
