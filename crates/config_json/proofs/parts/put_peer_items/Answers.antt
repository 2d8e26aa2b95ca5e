use Rattle.config_json.specs.Json.{peer_item}
use Rattle.config_json.proofs.TextLemmas.{item_more}
use Rattle.config_json.proofs.parts.put_peer_items.Goals as goal

-- one more was put
pub loop-peer-preserved : goal.loop-peer-preserved
loop-peer-preserved c =
    item_more peer_item c.args.out.now.items c.loop-peer.out.items c.put_peer.new.out.items c.args.peers.now c.loop-peer.peer-index
    c.peer-item.result c.loop-peer-test.true c.peer-item.is c.loop-peer.invariant c.in_ok-put_peer.ensures
