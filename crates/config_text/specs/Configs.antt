-- What a bench is opened with, of a node and what its files were read as.
use Rattle.std.specs.Prelude.{◌≡◌, ℕ, List, length, map}
use Rattle.bench_open.specs.declared.config.Config.{Config}
use Rattle.config_text.specs.declared.config.RoleTables.{RoleTables}
use Rattle.config_text.specs.declared.node.NodeConfig.{NodeConfig}
use Rattle.config_text.specs.declared.node.PeerConfig.{PeerConfig}
use Rattle.dia_dict.specs.declared.definition.Definition.{Definition}

abbrev pub host_of : PeerConfig → List ℕ
host_of peer = peer.host

-- all that the node has of it, as many desks as it has, and the tables and the dictionary
pub record IsConfigOf (node : NodeConfig) (tables : RoleTables) (dictionary : List Definition)
    (config : Config) : Type 0 where
  pub identity : config.identity ≡ node.identity
  pub peers : config.peers.items ≡ map host_of node.peers
  pub accounts : config.accounts.items ≡ node.accounts
  pub shards : config.shards ≡ node.shards
  pub pages : config.pages ≡ node.pages
  pub desks : config.desks ≡ length node.desks
  pub default_units : config.default_units ≡ node.default_units
  pub dictionary_given : config.dictionary ≡ dictionary
  pub peer : config.peer ≡ tables.peer
  pub client : config.client ≡ tables.client
  pub server : config.server ≡ tables.server
