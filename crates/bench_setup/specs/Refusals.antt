-- Why a text that was read is refused, and what is told of it.
use Rattle.std.specs.Prelude.{◌≡◌, ◌⊎◌, ◌<◌, ◌==◌, ℕ, List, [], Option, Some, None, Ok, Err, codes}
use Rattle.std.specs.Prelude.{length, nat_lt, if◌then◌else◌}
use Rattle.base_device.specs.Inputs.{IsInput}
use Rattle.config_text.specs.Texts as config
use Rattle.config_text.specs.Told.{error_text}
use Rattle.config_text.specs.declared.fault.ConfigError.{ConfigError}
use Rattle.config_text.specs.declared.node.NodeConfig.{NodeConfig}
use Rattle.dict_text.specs.Read.{glossary_of}
use Rattle.dict_text.specs.Told.{wrong_text}
use Rattle.dict_text.specs.Wrong.{WrongAt}
use Rattle.fault_text.specs.Faults.{table_fault}
use Rattle.role_tables.specs.declared.client.TheConstants.{CLIENT_TABLE}
use Rattle.role_tables.specs.declared.peer.TheConstants.{PEER_TABLE}
use Rattle.role_tables.specs.declared.server.TheConstants.{SERVER_TABLE}
use Rattle.tab_text.specs.Faults.{first_fault}
use Rattle.tab_text.specs.declared.fault.TextFault.{TextFault}

-- a text that is no CONFIG
pub record IsNoConfig (text told : List ℕ) : Type 0 where
  pub error : ConfigError
  pub is : config.IsRefused text error
  pub told_so : told ≡ error_text error

-- a CONFIG without a node
abbrev pub HasNoNode : (text told : List ℕ) → Type 0
HasNoNode text told = (config.nodes_in text ≡ Some (Ok [])) × (told ≡ codes "CONFIG has no node\n")

-- a CONFIG with more nodes than are read
pub record HasManyNodes (text told : List ℕ) : Type 0 where
  pub nodes : List NodeConfig
  pub are : config.nodes_in text ≡ Some (Ok nodes)
  pub many : 64 < length nodes
  pub told_so : told ≡ codes "CONFIG has more than 64 nodes\n"

-- what is told of so many nodes, where they are too few or too many
abbrev pub count_text : ℕ → Option (List ℕ)
count_text count =
    if count == 0 then Some (codes "CONFIG has no node\n")
    else (if nat_lt 64 count then Some (codes "CONFIG has more than 64 nodes\n") else None)

-- a table with a fault
pub record IsNoTable (text told : List ℕ) : Type 0 where
  pub fault : TextFault
  pub first : first_fault text ≡ Some fault
  pub told_so : told ≡ table_fault text fault

-- a dictionary with a wrong line
pub record IsNoDictionary (text told : List ℕ) : Type 0 where
  pub wrong : WrongAt
  pub first : glossary_of text ≡ Err wrong
  pub told_so : told ≡ wrong_text wrong

-- why a text is refused
abbrev pub IsWrong : (text told : List ℕ) → Type 0
IsWrong text told =
    IsNoConfig text told ⊎ HasNoNode text told ⊎ HasManyNodes text told ⊎ IsNoTable text told ⊎ IsNoDictionary text told

-- a shipped table
abbrev pub IsShipped : List ℕ → Type 0
IsShipped text = (text ≡ PEER_TABLE.now) ⊎ (text ≡ CLIENT_TABLE.now) ⊎ (text ≡ SERVER_TABLE.now)

-- a text is refused that was read whole, and behind which nothing was read, or that is a shipped table
pub record IsRefusedBy {I : Type 0} (remaining : I → Option (List ℕ)) (reads failures : I → ℕ) (new : I)
    (told : List ℕ) : Type 0 where
  pub text : List ℕ
  pub before : I
  pub from : IsInput remaining reads failures before new text ⊎ IsShipped text
  pub wrong : IsWrong text told
