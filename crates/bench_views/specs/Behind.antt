-- What steps that handle nothing make of what a bench keeps.
use Rattle.std.specs.Prelude.{ℕ, ◌+◌, ◌-◌, zero, suc, List, [], ◌∷◌}
use Rattle.bench_item.specs.declared.item.Item.{Item}
use Rattle.bench_item.specs.declared.item.MachineItem.{MachineItem}
use Rattle.bench_item.specs.declared.source.Source.{Source}
use Rattle.bench_item.specs.declared.source.Source.TheVariants.{Clock, Desk, Line, Shard}
use Rattle.bench_line.specs.Lines.{with_line, lifted_one as line_lifted_one}
use Rattle.bench_queue.specs.Inbox.{put_in}
use Rattle.bench_queue.specs.Outbox.{OutboxView, dropped_one, lifted_one, put_out}
use Rattle.bench_shard.specs.View.{ShardView, with_inbox, with_outbox}
use Rattle.bench_views.specs.Stored.{Stored}

-- a list with the item at a place changed, if there is one
abbrev pub changed_at : {X : Type 0} → ℕ → (X → X) → List X → List X
changed_at place f [] = []
changed_at zero f (x ∷ xs) = f x ∷ xs
changed_at (suc place) f (x ∷ xs) = x ∷ changed_at place f xs

-- the parts with one shard, or one outbox, changed
abbrev pub at_shard : ℕ → (ShardView → ShardView) → Stored → Stored
at_shard place f s = record s { shards = changed_at place f s.shards }

abbrev pub at_outbox : ℕ → (OutboxView → OutboxView) → Stored → Stored
at_outbox place f s = record s { outboxes = changed_at place f s.outboxes }

-- the oldest item that waits at a source is lifted
abbrev pub lifted_from : Source → Stored → Stored
lifted_from (Line line) s = record s { lines = with_line line line_lifted_one s.lines }
lifted_from (Shard shard) s = at_shard shard (λ v. with_outbox v (lifted_one v.outbox)) s
lifted_from (Desk desk) s = at_outbox (suc desk) lifted_one s
lifted_from Clock s = at_outbox 0 lifted_one s

-- the item in the hand of a source is dropped
abbrev pub dropped_from : Source → Stored → Stored
dropped_from (Line line) s = record s { carried = changed_at (line - 1) (λ n. n + 1) s.carried }
dropped_from (Shard shard) s = at_shard shard (λ v. with_outbox v (dropped_one v.outbox)) s
dropped_from (Desk desk) s = at_outbox (suc desk) dropped_one s
dropped_from Clock s = at_outbox 0 dropped_one s

-- an event came to a shard
abbrev pub came_to : ℕ → MachineItem → Stored → Stored
came_to shard item s = at_shard shard (λ v. with_inbox v (put_in v.inbox (item ∷ []))) s

-- the source of the outbox at a place put these out
abbrev pub put_out_at : ℕ → List Item → Stored → Stored
put_out_at place items s = at_outbox place (λ v. put_out v items) s
