-- What a node is opened with, of a CONFIG and of the files that it names.
use Rattle.std.specs.Prelude.{◌≡◌, ℕ, List, [], ◌∷◌, Option, Some, None, Ok, map, slice_get}
use Rattle.base_device.specs.Inputs.{IsInput}
use Rattle.bench_open.specs.declared.config.Config as handed
use Rattle.config_text.specs.Configs.{IsConfigOf}
use Rattle.config_text.specs.Texts.{nodes_in}
use Rattle.config_text.specs.declared.config.RoleTables.{RoleTables}
use Rattle.config_text.specs.declared.node.NodeConfig.{NodeConfig}
use Rattle.config_text.specs.declared.node.Tables.{Tables}
use Rattle.dia_dict.specs.declared.definition.Definition.{Definition}
use Rattle.dia_show.specs.Glossary.{Meanings}
use Rattle.dict_text.specs.Read.{glossary_of}
use Rattle.role_tables.specs.declared.client.TheConstants.{CLIENT_TABLE}
use Rattle.role_tables.specs.declared.peer.TheConstants.{PEER_TABLE}
use Rattle.role_tables.specs.declared.server.TheConstants.{SERVER_TABLE}
use Rattle.tab_text.specs.Contents.{Contents}
use Rattle.tab_text.specs.Faults.{first_fault}
use Rattle.tab_text.specs.Rows.{table_of}
use Rattle.bench_setup.specs.declared.setups.Setup.{Setup}

-- the nodes of a CONFIG's text
abbrev pub AreNodesOf : List ℕ → List NodeConfig → Type 0
AreNodesOf text nodes = nodes_in text ≡ Some (Ok nodes)

-- the table of a text without faults
abbrev pub IsTableOf : List ℕ → Contents → Type 0
IsTableOf text table = (first_fault text ≡ None) × (table ≡ table_of text)

-- the definitions that a text adds
pub record AddsTo (text : List ℕ) (dictionary : List Definition) : Type 0 where
  pub glossary : Meanings
  pub is : glossary_of text ≡ Ok glossary
  pub added : dictionary ≡ glossary.definitions

-- the table of a file that was read whole, or else the shipped one
abbrev pub IsTableFrom : {I : Type 0} → (remaining : I → Option (List ℕ))
    → (reads failures : I → ℕ) → Option (List ℕ) → List ℕ → (old new : I) → Contents → Type 0
IsTableFrom remaining reads failures None shipped old new table = (new ≡ old) × IsTableOf shipped table
IsTableFrom remaining reads failures (Some name) shipped old new table =
    (text : List ℕ) × IsInput remaining reads failures old new text × IsTableOf text table

-- the table of each role, in their order
pub record AreTablesFrom {I : Type 0} (remaining : I → Option (List ℕ)) (reads failures : I → ℕ) (names : Tables)
    (old new : I) (tables : RoleTables) : Type 0 where
  pub after_peer : I
  pub after_client : I
  pub peer : IsTableFrom remaining reads failures names.peer PEER_TABLE.now old after_peer tables.peer
  pub client : IsTableFrom remaining reads failures names.client CLIENT_TABLE.now after_peer after_client tables.client
  pub server : IsTableFrom remaining reads failures names.server SERVER_TABLE.now after_client new tables.server

-- what a file that was read whole adds to the dictionary; nothing where none is named
abbrev pub IsDictionaryFrom : {I : Type 0} → (remaining : I → Option (List ℕ))
    → (reads failures : I → ℕ) → Option (List ℕ) → (old new : I) → List Definition → Type 0
IsDictionaryFrom remaining reads failures None old new dictionary = (new ≡ old) × (dictionary ≡ [])
IsDictionaryFrom remaining reads failures (Some name) old new dictionary =
    (text : List ℕ) × IsInput remaining reads failures old new text × AddsTo text dictionary

-- what a bench is opened with, of a node and the files that it names: the tables, and then the dictionary
pub record IsBenchFrom {I : Type 0} (remaining : I → Option (List ℕ)) (reads failures : I → ℕ) (node : NodeConfig)
    (old new : I) (bench : handed.Config) : Type 0 where
  pub after_tables : I
  pub tables : RoleTables
  pub tables_read : AreTablesFrom remaining reads failures node.files.tables old after_tables tables
  pub dictionary : List Definition
  pub dictionary_read : IsDictionaryFrom remaining reads failures node.files.dictionary after_tables new dictionary
  pub is : IsConfigOf node tables dictionary bench

-- a CONFIG was read, and then the files of its first node
pub record IsFirstFrom {I : Type 0} (remaining : I → Option (List ℕ)) (reads failures : I → ℕ) (old new : I)
    (setup : Setup) : Type 0 where
  pub text : List ℕ
  pub after_config : I
  pub config_read : IsInput remaining reads failures old after_config text
  pub nodes : List NodeConfig
  pub are : AreNodesOf text nodes
  pub first : slice_get nodes 0 ≡ Some setup.node
  pub bench : IsBenchFrom remaining reads failures setup.node after_config new setup.bench

-- the files of nodes were read, of one node after the other
abbrev pub AreReadInTurn : {I : Type 0} → (remaining : I → Option (List ℕ))
    → (reads failures : I → ℕ) → (old : I) → List Setup → (new : I) → Type 0
AreReadInTurn remaining reads failures old [] new = new ≡ old
AreReadInTurn {I} remaining reads failures old (setup ∷ setups) new =
    (mid : I) × IsBenchFrom remaining reads failures setup.node old mid setup.bench
    × AreReadInTurn remaining reads failures mid setups new

-- a CONFIG was read, and then the files of all its nodes, in their order
pub record AreSetupsFrom {I : Type 0} (remaining : I → Option (List ℕ)) (reads failures : I → ℕ) (old new : I)
    (setups : List Setup) : Type 0 where
  pub text : List ℕ
  pub after_config : I
  pub config_read : IsInput remaining reads failures old after_config text
  pub are : AreNodesOf text (map (λ setup. setup.node) setups)
  pub in_turn : AreReadInTurn remaining reads failures after_config setups new
