use Rattle.std.proofs.Common.{◌<◌, arith, length, rules}
use Rattle.live_open.proofs.AgreeLemmas.{agree-next}
use Rattle.bench_live.proofs.start.lock_shards.Goals as goal

pub shards-preserved : goal.shards-preserved
shards-preserved g c =
    let some : 0 < length c.shards.left.items = search rules in
    let some' : 0 < length c.shards.calls.items = search rules in
    let next = agree-next (λ r. r.book) c.shards.left.items c.remove-part.new.self.items c.shards.calls.items
    c.remove-registry.new.self.items c.remove-part.result c.remove-registry.result some some' c.remove-part.ensures.value
    c.remove-part.ensures.items c.remove-registry.ensures.value c.remove-registry.ensures.items c.shards.invariant.0 in
    (next.1, omega (arith, some, c.shards.invariant.1, c.in_ok-push.ensures.len, c.remove-part.ensures.len))
