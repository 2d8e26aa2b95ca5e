use Rattle.std.proofs.Common.{ℕ, List, ap, get_or, ◌∙◌}
use Rattle.bench_item.specs.Peers.{refusal}
use Rattle.bench_start.proofs.OpenLemmas.{free-host}
use Rattle.bench_start.proofs.peers.open_peers.Goals as goal

pub add_peer-requires : goal.add_peer-requires
add_peer-requires c =
    ap (λ (h : List ℕ). refusal h c.loop-host.peers) (c.as_slice.ensures ∙ c.host-item.is)
    ∙ ap (refusal (get_or c.args.hosts.now c.loop-host.host-index c.host-item.result)) c.loop-host.invariant
    ∙ free-host c.args.hosts.now c.args.shards c.loop-host.host-index c.host-item.result c.loop-host-test.true c.requires.few_hosts c.requires.apart
