use Rattle.std.proofs.Common.{sym}
use Rattle.bench_shard.specs.Works.{taken_back}
use Rattle.bench_carry.proofs.BackLemmas.{changed-past, set-within}
use Rattle.bench_carry.proofs.back.unwork.Goals as goal

pub returns-then-place-shards : goal.returns-then-place-shards
returns-then-place-shards c =
    set-within c.args.shards.now c.args.place c.take_back.new.self _ (taken_back c.args.change)
    c.if-place-shards.true c.take_back.ensures

pub returns-else-place-shards : goal.returns-else-place-shards
returns-else-place-shards c =
    sym (changed-past c.args.place (taken_back c.args.change) c.args.shards.now c.if-place-shards.false)
