-- What a source put out and what came to a shard, by the log.
use Rattle.std.specs.Prelude.{ℕ, List, length}
use Rattle.bench_item.specs.declared.entry.Entry.{Entry}
use Rattle.bench_item.specs.declared.source.Source.{Source}
use Rattle.bench_queue.specs.Inbox.{InboxView}
use Rattle.bench_queue.specs.Outbox.{OutboxView}
use Rattle.bench_spec.specs.Items.{arrived, dropped, lifted, posts, worked}
use Rattle.bench_spec.specs.Settings.{Settings}

-- what a source put out by the log, and how far that was carried
abbrev pub outbox_at : Settings → List Entry → Source → OutboxView
outbox_at settings log source = record {
  posts = posts settings log source;
  lifted = length (lifted log source);
  dropped = length (dropped log source);
}

-- what came to a shard by the log, and how much of it was handled
abbrev pub inbox_at : Settings → List Entry → ℕ → InboxView
inbox_at settings log shard = record { items = arrived settings.node log shard; worked = length (worked log shard) }
