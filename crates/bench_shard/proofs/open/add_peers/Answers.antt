use Rattle.bench_shard.proofs.OpenLemmas.{peer_names-more}
use Rattle.bench_shard.proofs.open.add_peers.Goals as goal

pub loop-host-preserved : goal.loop-host-preserved
loop-host-preserved c = record {
  names = peer_names-more c.shards-shards.result c.args.number c.hosts-hosts.result.now c.loop-host.names c.add_host.new.names c.loop-host.host-index _ _ c.loop-host-test.true c.loop-host.invariant.names c.host-item.is c.in_ok-add_host.ensures.names;
  states = c.in_ok-add_host.ensures.states;
}
