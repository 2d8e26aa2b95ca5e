use Rattle.std.proofs.Common.{◌≡◌, ◌++◌, take}
use Rattle.std.specs.Prelude.{flat_map}
use Rattle.bench_show.specs.Queues.{inbox_line}
use Rattle.bench_show.proofs.queues.put_arrivals.Given as goal

-- the events so far were put
abbrev pub invariant-loop-item : goal.invariant-loop-item
invariant-loop-item l =
    l.out.items ≡ l.initial.out.items ++ flat_map (inbox_line l.core l.shard) (take l.item-index l.items)
