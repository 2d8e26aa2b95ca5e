use Rattle.std.proofs.Common.{◌≡◌, ◌∙◌, ◌/◌, map, subst}
use Rattle.bench_item.specs.Keys.{Configured, home}
use Rattle.bench_item.proofs.PeerLemmas.{host-passed, host-skipped}
use Rattle.bench_item.proofs.peers.Peers.host.Goals as goal
use Rattle.bench_item.proofs.peers.Peers.host.Goals.{then-home-shard+else-before-eq0, else-home-shard}

homes : (c : goal.Joined-home-shard) → c.deref-home-items.result.now ≡ map (home c.args.self.now.shards) c.args.self.now.hosts
homes c = c.deref-home-items.ensures.value ∙ subst (λ (p : Configured). c.self.inside.homes.items ≡ map (home p.shards) p.hosts) c.self.view_is c.self.invariant.1

pub loop-place-preserved : goal.loop-place-preserved
loop-place-preserved c = elim c.if-home-shard.branch [
  | then-home-shard+else-before-eq0 w ↦
      host-passed c.args.self.now c.deref-home-items.result.now (c.args.number / 4096) c.loop-place.place c.loop-place.before c.if-home-shard.before _ (homes c) c.loop-place-test.true w.if-home-shard.true w.if-before-eq0.false w.before-is c.loop-place.invariant
  | else-home-shard w ↦
      host-skipped c.args.self.now c.deref-home-items.result.now (c.args.number / 4096) c.loop-place.place c.loop-place.before c.if-home-shard.before _ (homes c) c.loop-place-test.true w.if-home-shard.false w.before-is c.loop-place.invariant
]
