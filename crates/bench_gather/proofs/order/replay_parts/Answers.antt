use Rattle.std.proofs.Common.{map}
use Rattle.std.proofs.lemmas.List.{take_more}
use Rattle.bench_parts.specs.Views.{kept_in}
use Rattle.bench_gather.proofs.PartLemmas.{parts-stop}
use Rattle.bench_gather.proofs.order.replay_parts.Goals as goal

pub returns-in-Err : goal.returns-in-Err
returns-in-Err c =
    parts-stop c.args.core.now c.loop-at.core c.take_at.new.core c.unwind.new.core
    (map kept_in c.args.parts.now) c.args.order.now
    c.loop-at.at-index _ c.in-Err.fault c.requires
    (take_more c.args.order.now c.loop-at.at-index _ c.loop-at-test.true) c.loop-at.invariant c.in-Err.ensures
    c.unwind.ensures
