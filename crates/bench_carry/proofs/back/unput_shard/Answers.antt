use Rattle.std.proofs.Common.{sym}
use Rattle.bench_queue.specs.Inbox.{without_in}
use Rattle.bench_shard.specs.View.{with_inbox}
use Rattle.bench_carry.proofs.BackLemmas.{changed-past, set-within}
use Rattle.bench_carry.proofs.back.unput_shard.Goals as goal

pub returns-then-place-shards : goal.returns-then-place-shards
returns-then-place-shards c =
    set-within c.args.shards.now c.args.place c.unput.new.self _ (λ v. with_inbox v (without_in v.inbox 1))
    c.if-place-shards.true c.unput.ensures

pub returns-else-place-shards : goal.returns-else-place-shards
returns-else-place-shards c =
    sym (changed-past c.args.place (λ v. with_inbox v (without_in v.inbox 1)) c.args.shards.now c.if-place-shards.false)
