use Rattle.std.proofs.Common.{◌≡◌, None, sym, ◌∙◌, subst}
use Rattle.bench_item.specs.Keys.{Configured}
use Rattle.bench_item.specs.Peers.{refusal}
use Rattle.bench_item.proofs.PeerLemmas.{keeps, none-is}
use Rattle.bench_item.proofs.peers.Peers.add.Goals as goal

pub invariant_of-self : goal.invariant_of-self
invariant_of-self c =
    let own : refusal c.args.host.now c.args.self.now ≡ None = sym c.refusal.ensures ∙ none-is c.refusal.result c.in_default.not-Some in
    let free = subst (λ (p : Configured). refusal c.args.host.now p ≡ None) (sym c.self.view_is) own in
    let host = c.in_ok-host.ensures.copy in
    keeps _ c.in_ok-host.host c.append.new.hosts.items c.self.inside.homes.items c.append.new.homes.items c.append.result c.self.invariant.0 c.self.invariant.1 (rw host free) c.append.ensures.hosts (rw (host, ← c.shard_of-home.ensures.is) c.append.ensures.homes) c.append.ensures.err
