-- The item that is next at a source, and the one in its hand, by what a bench keeps.
use Rattle.std.specs.Prelude.{ℕ, ◌-◌, ◌==◌, suc, List, Option, None, slice_get, take, if◌then◌else◌}
use Rattle.std.specs.Option.{option_and_then}
use Rattle.bench_item.specs.declared.item.Item.{Item}
use Rattle.bench_item.specs.declared.source.Source.{Source}
use Rattle.bench_item.specs.declared.source.Source.TheVariants.{Clock, Desk, Line, Shard}
use Rattle.bench_line.specs.Lines.{line_at, next_on}
use Rattle.bench_queue.specs.Outbox.{hand_out, next_out}
use Rattle.bench_views.specs.Stored.{Stored}

-- the oldest item that waits, if one does
abbrev pub next_of : Source → Stored → Option Item
next_of (Line line) s = next_on s.lines line
next_of (Shard shard) s = option_and_then (λ v. next_out v.outbox) (slice_get s.shards shard)
next_of (Desk desk) s = option_and_then next_out (slice_get s.outboxes (suc desk))
next_of Clock s = option_and_then next_out (slice_get s.outboxes 0)

-- how many items of a line were dropped, if it is there
abbrev pub dropped_on : List ℕ → ℕ → Option ℕ
dropped_on carried line = if line == 0 then None else slice_get carried (line - 1)

-- the item in the hand, if one is
abbrev pub hand_of : Source → Stored → Option Item
hand_of (Line line) s =
    option_and_then (λ count. option_and_then (λ l. slice_get (take l.lifted l.outbox) count) (line_at s.lines line))
    (dropped_on s.carried line)
hand_of (Shard shard) s = option_and_then (λ v. hand_out v.outbox) (slice_get s.shards shard)
hand_of (Desk desk) s = option_and_then hand_out (slice_get s.outboxes (suc desk))
hand_of Clock s = option_and_then hand_out (slice_get s.outboxes 0)
