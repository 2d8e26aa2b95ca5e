use Rattle.std.proofs.Common.{◌∙◌, sym}
use Rattle.bench_item.proofs.PeerLemmas.{own-configured}
use Rattle.bench_item.proofs.peers.Peers.find.Goals as goal

pub returns-clause-own : goal.returns-clause-own
returns-clause-own c = own-configured c.args.self.now c.args.host.now c.in_ok-place.field-0 c.number.result (sym c.place.ensures ∙ c.in_ok-place.was) c.number.ensures.own
