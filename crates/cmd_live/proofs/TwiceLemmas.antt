-- The first host that two nodes have.
use Rattle.std.proofs.Common.{◌≡◌, ◌∙◌, ◌<◌, ◌+◌, ◌-◌, ℕ, List, Some, ap, arith, drop, false, get_or, length, refl, take, true}
use Rattle.std.proofs.lemmas.List.{drop_more, length-drop, take_all}
use Rattle.config_text.specs.declared.node.NodeConfig.{NodeConfig}
use Rattle.cmd_live.specs.Nodes.{first_twice, has_host}

-- it is not that of the next node
pub twice_next : (nodes : List NodeConfig) (place : ℕ) (node : NodeConfig) → place < length nodes
    → has_host (get_or nodes place node).identity.host (drop (place + 1) nodes) ≡ false
    → first_twice (drop place nodes) ≡ first_twice (drop (place + 1) nodes)
twice_next nodes place node within none = ap first_twice (drop_more nodes place node within) ∙ rw none refl

-- or it is
pub twice_here : (nodes : List NodeConfig) (place : ℕ) (node : NodeConfig) → place < length nodes
    → has_host (get_or nodes place node).identity.host (drop (place + 1) nodes) ≡ true
    → first_twice (drop place nodes) ≡ Some (get_or nodes place node).identity.host
twice_here nodes place node within has = ap first_twice (drop_more nodes place node within) ∙ rw has refl

-- all that are behind a place
pub all_behind : (nodes : List NodeConfig) (place : ℕ) → take (length nodes - place) (drop place nodes) ≡ drop place nodes
all_behind nodes place = let long = length-drop place nodes in take_all (length nodes - place) (drop place nodes) (omega (arith, long))
