use Rattle.std.proofs.Common.{◌≡◌}
use Rattle.std.specs.Prelude.{replicate}
use Rattle.bench_queue.specs.Outbox.{nothing_out}
use Rattle.bench_core.proofs.parts.open_outboxes.Given as goal

abbrev pub invariant-loop-place : goal.invariant-loop-place
invariant-loop-place l = l.outboxes.items ≡ replicate l._place (record { view = nothing_out; room = 0 })
