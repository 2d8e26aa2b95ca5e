use Rattle.std.proofs.Common.{sym, ◌∙◌}
use Rattle.bench_open.proofs.KindLemmas.{lacks-client, lacks-peer, lacks-server}
use Rattle.bench_open.proofs.kinds.lacks_kind.Goals as goal

pub returns-then-lacks_peer : goal.returns-then-lacks_peer
returns-then-lacks_peer c = lacks-peer c.args.laws.now (sym c.lacks_peer.ensures ∙ c.if-lacks_peer.true)

pub returns-then-lacks_client : goal.returns-then-lacks_client
returns-then-lacks_client c = lacks-client c.args.laws.now (sym c.lacks_client.ensures ∙ c.if-lacks_client.true)

pub returns : goal.returns
returns c = c.lacks_server.ensures ∙
    lacks-server c.args.laws.now (sym c.lacks_peer.ensures ∙ c.if-lacks_peer.false) (sym c.lacks_client.ensures ∙ c.if-lacks_client.false)
