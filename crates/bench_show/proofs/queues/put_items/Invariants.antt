use Rattle.std.proofs.Common.{◌≡◌, ◌++◌, take}
use Rattle.std.specs.Prelude.{flat_map}
use Rattle.bench_show.specs.Queues.{waiting_line}
use Rattle.bench_show.proofs.queues.put_items.Given as goal

-- the items so far were put
abbrev pub invariant-loop-item : goal.invariant-loop-item
invariant-loop-item l =
    l.out.items ≡ l.initial.out.items ++ flat_map (waiting_line l.core l.source l.place) (take l.item-index l.items)
