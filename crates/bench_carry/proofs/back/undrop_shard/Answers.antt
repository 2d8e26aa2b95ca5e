use Rattle.std.proofs.Common.{sym}
use Rattle.bench_queue.specs.Outbox.{undropped_one}
use Rattle.bench_shard.specs.View.{with_outbox}
use Rattle.bench_carry.proofs.BackLemmas.{changed-past, set-within}
use Rattle.bench_carry.proofs.back.undrop_shard.Goals as goal

pub returns-then-place-shards : goal.returns-then-place-shards
returns-then-place-shards c =
    set-within c.args.shards.now c.args.place c.undrop.new.self _ (λ v. with_outbox v (undropped_one v.outbox))
    c.if-place-shards.true c.undrop.ensures

pub returns-else-place-shards : goal.returns-else-place-shards
returns-else-place-shards c =
    sym (changed-past c.args.place (λ v. with_outbox v (undropped_one v.outbox)) c.args.shards.now c.if-place-shards.false)
