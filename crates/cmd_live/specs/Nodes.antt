-- Which nodes of a CONFIG are to live, and with what their benches are opened.
use Rattle.std.specs.Prelude.{◌≡◌, ◌∷◌, ℕ, Bool, false, true, List, [], Option, None}
use Rattle.std.specs.Prelude.{Some, flat_map, min, replicate, if◌then◌else◌}
use Rattle.std.specs.List.{list_any}
use Rattle.bench_item.specs.Peers.{is_same_host}
use Rattle.bench_item.specs.declared.limit.TheConstants.{MAX_SHARDS}
use Rattle.bench_open.specs.Given.{config_of}
use Rattle.bench_open.specs.declared.config.Config.{Config}
use Rattle.bench_setup.specs.declared.setups.Setup.{Setup}
use Rattle.bench_spec.specs.Opening.{settings_of}
use Rattle.bench_spec.specs.Settings.{Settings}
use Rattle.role_tables.specs.Roles.{all_laws}
use Rattle.config_text.specs.declared.node.NodeConfig.{NodeConfig}
use Rattle.tab_law.specs.Books.{Laws}

-- whether a node is to live: all are, or the one of a host
abbrev pub is_wanted : Option (List ℕ) → Setup → Bool
is_wanted None setup = true
is_wanted (Some host) setup = is_same_host setup.node.identity.host host

-- a node, if it is to live
abbrev pub wanted_node : Option (List ℕ) → Setup → List NodeConfig
wanted_node host setup = if is_wanted host setup then setup.node ∷ [] else []

-- the nodes that are to live, in the order of CONFIG
abbrev pub nodes_of : Option (List ℕ) → List Setup → List NodeConfig
nodes_of host setups = flat_map (wanted_node host) setups

-- the laws of the registries that a bench is opened with: those of all roles, for each shard
abbrev pub laws_for : Config → List Laws
laws_for config = replicate (min config.shards MAX_SHARDS) all_laws

-- what it is opened with by these
unfoldable pub settings_at : Config → Settings
settings_at config = settings_of (config_of config (laws_for config))

-- whether a node of that host is among nodes
abbrev pub has_host : List ℕ → List NodeConfig → Bool
has_host host nodes = list_any (λ node. is_same_host node.identity.host host) nodes

-- the first host that another node behind its own has, too
abbrev pub first_twice : List NodeConfig → Option (List ℕ)
first_twice [] = None
first_twice (node ∷ nodes) =
    if has_host node.identity.host nodes then Some node.identity.host else first_twice nodes

-- where nodes are logged each has a host of its own
abbrev pub AreApartWhere : (is_logged : Bool) → List NodeConfig → Type 0
AreApartWhere true nodes = first_twice nodes ≡ None
AreApartWhere false nodes = Unit {0}
