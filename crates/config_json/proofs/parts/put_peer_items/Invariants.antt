use Rattle.std.proofs.Common.{◌≡◌, ◌++◌, flat_map, take}
use Rattle.config_json.specs.Json.{peer_item}
use Rattle.config_json.proofs.parts.put_peer_items.Given as goal

-- those so far were put
abbrev pub invariant-loop-peer : goal.invariant-loop-peer
invariant-loop-peer l = l.out.items ≡ l.initial.out.items ++ flat_map peer_item (take l.peer-index l.peers)
