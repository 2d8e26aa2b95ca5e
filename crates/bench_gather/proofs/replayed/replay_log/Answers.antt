use Rattle.std.proofs.Common.{arith, ◌<◌, length}
use Rattle.bench_gather.proofs.ReplayLemmas.{replay-stops, replays-next}
use Rattle.bench_gather.proofs.replayed.replay_log.Goals as goal

pub returns-in-Err : goal.returns-in-Err
returns-in-Err c =
    let count = c.len-place-end.ensures.count in
    let below = c.loop-place-test.true in
    let within : c.loop-place.place < length c.args.log.now.entries = omega (arith, count, below) in
    replay-stops c.args.core.now c.loop-place.core c.replay_at.new.core c.unwind.new.core c.args.log.now.entries
    c.loop-place.place
    c.in-Err.fault c.requires c.loop-place.invariant within c.in-Err.ensures
    c.unwind.ensures

pub loop-place-preserved : goal.loop-place-preserved
loop-place-preserved c =
    replays-next c.args.core.now c.loop-place.core c.replay_at.new.core c.args.log.now.entries c.loop-place.place
    c.in_default.ensures.0
    c.loop-place.invariant c.in_default.ensures.1 c.in_default.ensures.2
