use Rattle.std.proofs.Common.{◌≡◌, take}
use Rattle.bench_queue.proofs.outbox.show_items.Given as goal

abbrev pub invariant-loop-item : goal.invariant-loop-item
invariant-loop-item l = l.plain.items ≡ take l.item-index l.kept
