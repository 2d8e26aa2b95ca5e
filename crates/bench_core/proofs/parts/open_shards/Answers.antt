use Rattle.std.proofs.Common.{ap, ◌∙◌}
use Rattle.bench_shard.specs.View.{opened}
use Rattle.bench_start.proofs.ListLemmas.{more-by}
use Rattle.bench_core.proofs.StartLemmas.{standing-more}
use Rattle.bench_core.proofs.parts.open_shards.Goals as goal

pub loop-number-preserved : goal.loop-number-preserved
loop-number-preserved c = (
  more-by (λ number. opened number c.args.peers.now) c.loop-number.number c.loop-number.shards.items c.push.new.self.items c.in_ok-shard.shard c.loop-number.invariant.0
      (c.in_ok-shard.ensures.opened ∙ ap (opened c.loop-number.number) c.in_ok-own.ensures) c.in_ok-push.ensures.items,
  standing-more c.args.peers.now c.in_ok-own.own c.loop-number.number c.in_ok-shard.shard c.loop-number.invariant.1 c.in_ok-own.ensures c.in_ok-shard.ensures.opened c.in_ok-shard.ensures.stands,
)
