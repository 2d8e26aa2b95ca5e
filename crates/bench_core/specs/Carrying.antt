-- Whether a source is there, by what a world keeps.
use Rattle.std.specs.Prelude.{◌&&◌, suc, Bool, true, List, length, nat_le, nat_lt}
use Rattle.bench_item.specs.declared.source.Source.{Source}
use Rattle.bench_item.specs.declared.source.Source.TheVariants.{Clock, Desk, Line, Shard}
use Rattle.bench_line.specs.Line.{LineView}
use Rattle.bench_queue.specs.Outbox.{OutboxState}
use Rattle.bench_shard.specs.View.{ShardView}

-- whether the source is there: lines have the numbers from 1 on,
-- each desk has the outbox behind that of its number, the clock the first
abbrev pub has_source : Source → List ShardView → List OutboxState → List LineView → Bool
has_source (Line line) shards outboxes lines = nat_lt 0 line && nat_le line (length lines)
has_source (Shard shard) shards outboxes lines = nat_lt shard (length shards)
has_source (Desk desk) shards outboxes lines = nat_lt (suc desk) (length outboxes)
has_source Clock shards outboxes lines = true
