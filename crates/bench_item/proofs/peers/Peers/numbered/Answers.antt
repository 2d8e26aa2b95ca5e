use Rattle.std.proofs.Common.{subst}
use Rattle.bench_item.specs.Keys.{Configured}
use Rattle.bench_item.specs.Peers.{IsConfigured}
use Rattle.bench_item.proofs.PeerLemmas.{found-numbered}
use Rattle.bench_item.proofs.peers.Peers.numbered.Goals as goal

pub returns-clause-found : goal.returns-clause-found
returns-clause-found c =
    let well = subst (λ (p : Configured). IsConfigured p) c.self.view_is c.self.invariant.0 in
    found-numbered c.args.self.now c.args.number _ well c.host.ensures
