-- Why a node does not live, as it is told.
use Rattle.std.specs.Prelude.{◌≡◌, ◌⊎◌, ◌++◌, ◌-◌, ◌^◌, ℕ, min, true, List, []}
use Rattle.std.specs.Prelude.{Option, None, Some, codes, decimal, slice_get}
use Rattle.std.specs.Prelude.{Err, Ok, Result, Vec, is_some}
use Rattle.std.specs.Global.{Global}
use Rattle.bench_open.specs.Faults.{IsOpeningError}
use Rattle.bench_open.specs.Given.{config_of}
use Rattle.bench_open.specs.declared.config.Config.{Config}
use Rattle.bench_setup.specs.Opening.{opening_text_at, unbound_at}
use Rattle.bench_setup.specs.declared.setups.Setup.{Setup}
use Rattle.bench_spec.specs.Opening.{laws_of, settings_of}
use Rattle.bench_spec.specs.Taken.{Run, opened}
use Rattle.bench_spec.specs.declared.opening.OpeningError.{OpeningError}
use Rattle.cmd_live.specs.Nodes.{first_twice, is_wanted, laws_for, nodes_of, settings_at}
use Rattle.cmd_live.specs.declared.opening.Refused.{Refused}
use Rattle.cmd_live.specs.declared.opening.Refused.TheVariants.{Failed, NoMemory, Told}
use Rattle.config_text.specs.declared.node.DeskConfig.{DeskConfig}
use Rattle.config_text.specs.declared.node.NodeConfig.{NodeConfig}
use Rattle.live_desk.specs.Read.{IsFirstBad}
use Rattle.role_tables.specs.Roles.{all_laws}
use Rattle.step_text.specs.Names.{shown}
use Rattle.tab_law.specs.Books.{Laws}

-- a text of a desk that it can't tell, by their numbers
abbrev pub bad_text : (place desk text : ℕ) → List ℕ
bad_text place desk text = codes "nodes[" ++ decimal place ++ codes "].desks[" ++ decimal desk ++ codes "]["
    ++ decimal text
    ++ codes "]: bad text\n  wanted: a key and an event that it can be told, as p:s.example Start or c:s;1 Begin 7=100\n"

-- a node listens at what is no address
abbrev pub no_address_text : (place : ℕ) → List ℕ
no_address_text place = codes "nodes[" ++ decimal place
    ++ codes "].listen: a host and a port are wanted, as 127.0.0.1:3868\n"

-- the system refuses a node a socket
abbrev pub no_socket_text : (host : List ℕ) → List ℕ
no_socket_text host = codes "node " ++ shown host ++ codes ": the system refuses a socket\n"

-- CONFIG has no node of a host
abbrev pub no_node_text : Option (List ℕ) → List ℕ
no_node_text None = codes "CONFIG has no node " ++ codes "\n"
no_node_text (Some host) = codes "CONFIG has no node " ++ shown host ++ codes "\n"

-- two nodes of one host are to be logged
abbrev pub twice_text : (host : List ℕ) → List ℕ
twice_text host = codes "CONFIG has two nodes " ++ shown host ++ codes ": their logs would be one file\n"

-- a folder can't be made
abbrev pub no_folder_text : (folder : List ℕ) → List ℕ
no_folder_text folder = folder ++ codes ": no log can be written there\n"

-- of a desk's texts the first that it can't tell
abbrev pub IsBadDesk : (place desk : ℕ) → DeskConfig → Run → Refused → Type 0
IsBadDesk place desk config run (Told text) = (at : ℕ)
    × IsFirstBad run (min desk (2 ^ 32 - 1)) config.lines at × (text.items ≡ bad_text place desk at)
IsBadDesk place desk config run (Failed text) = ⊥
IsBadDesk place desk config run NoMemory = Unit {0}

-- that of one of a node's desks
pub record HasBadDesk (place : ℕ) (node : NodeConfig) (run : Run) (why : Refused) : Type 0 where
  pub desk : ℕ
  pub config : DeskConfig
  pub there : slice_get node.desks desk ≡ Some config
  pub bad : IsBadDesk place desk config run why

-- the same, memory aside
abbrev pub HasBadDeskIn : (place : ℕ) → NodeConfig → Run → Refused → Type 0
HasBadDeskIn place node run NoMemory = Unit {0}
HasBadDeskIn place node run (Failed text) = ⊥
HasBadDeskIn place node run (Told text) = HasBadDesk place node run (Told text)

-- what stands in the way of a bench with these laws
pub record IsNotOpened (config : Config) (laws : List Laws) (text : List ℕ) : Type 0 where
  pub error : OpeningError
  pub is : IsOpeningError (config_of config laws) error
  pub told : opening_text_at (laws_of (config_of config laws)) (unbound_at (config_of config laws)) error ≡ Some text

-- a bench is opened as its configuration says, with the laws of all roles; or what stands in its way is told
abbrev pub HasOpened : Config → List Laws → Result Run (Vec ℕ Global) → Type 0
HasOpened config laws (Ok run) =
    (run.settings.node.laws ≡ all_laws) × (run ≡ opened (settings_of (config_of config laws)))
HasOpened config laws (Err text) = IsNotOpened config laws text.items

-- the bench of a node is not opened
abbrev pub IsUnopened : Config → Refused → Type 0
IsUnopened config (Told text) = IsNotOpened config (laws_for config) text.items
IsUnopened config (Failed text) = ⊥
IsUnopened config NoMemory = Unit {0}

-- the bench of a node is not opened, or a desk can't tell a text
abbrev pub IsUnready : (place : ℕ) → NodeConfig → Config → Refused → Type 0
IsUnready place node config (Told text) =
    IsNotOpened config (laws_for config) text.items ⊎ HasBadDesk place node (opened (settings_at config)) (Told text)
IsUnready place node config (Failed text) = ⊥
IsUnready place node config NoMemory = Unit {0}

-- a node has no sockets: it listens at what is no address, or the system refuses one
abbrev pub IsWithoutSockets : (place : ℕ) → NodeConfig → Refused → Type 0
IsWithoutSockets place node (Told text) =
    (listen : List ℕ) × (node.listen ≡ Some listen) × (text.items ≡ no_address_text place)
IsWithoutSockets place node (Failed text) = text.items ≡ no_socket_text node.identity.host
IsWithoutSockets place node NoMemory = Unit {0}

-- a node is not opened, or has no sockets
abbrev pub IsRefusedNode : (place : ℕ) → Setup → Refused → Type 0
IsRefusedNode place setup why =
    IsUnready place setup.node setup.bench why ⊎ IsWithoutSockets place setup.node why

-- that of a node that is to live, memory aside
abbrev pub IsRefusedIfWanted : (host : Option (List ℕ)) → (place : ℕ) → Setup → Refused → Type 0
IsRefusedIfWanted host place setup NoMemory = Unit {0}
IsRefusedIfWanted host place setup why = (is_wanted host setup ≡ true) × IsRefusedNode place setup why

-- that of one of the nodes of CONFIG
pub record IsRefusedAt (host : Option (List ℕ)) (setups : List Setup) (why : Refused) : Type 0 where
  pub place : ℕ
  pub setup : Setup
  pub there : slice_get setups place ≡ Some setup
  pub refused : IsRefusedIfWanted host place setup why

-- the same, memory aside
abbrev pub IsRefusedIn : (host : Option (List ℕ)) → List Setup → Refused → Type 0
IsRefusedIn host setups NoMemory = Unit {0}
IsRefusedIn host setups why = IsRefusedAt host setups why

-- none is to live, or one is refused
abbrev pub IsRefusedOrNone : (host : Option (List ℕ)) → List Setup → Refused → Type 0
IsRefusedOrNone host setups (Told text) = ((nodes_of host setups ≡ []) × (text.items ≡ no_node_text host))
    ⊎ IsRefusedAt host setups (Told text)
IsRefusedOrNone host setups why = IsRefusedIn host setups why

-- the system refuses a folder for logs, or memory ran out
abbrev pub IsNoFolder : (log : Option (List ℕ)) → Refused → Type 0
IsNoFolder log (Failed text) = (folder : List ℕ) × (log ≡ Some folder) × (text.items ≡ no_folder_text folder)
IsNoFolder log (Told text) = ⊥
IsNoFolder log NoMemory = Unit {0}

-- two nodes are to be logged and have one host, or memory ran out
abbrev pub IsTwice : (log : Option (List ℕ)) → List NodeConfig → Refused → Type 0
IsTwice log nodes (Failed text) = ⊥
IsTwice log nodes (Told text) = (is_some log ≡ true)
    × (host : List ℕ) × (first_twice nodes ≡ Some host) × (text.items ≡ twice_text host)
IsTwice log nodes NoMemory = Unit {0}

-- why nodes do not live: the system refuses a folder for logs, they are refused, or two would have one log
abbrev pub IsRefusal : (host log : Option (List ℕ)) → List Setup → Refused → Type 0
IsRefusal host log setups (Failed text) =
    IsNoFolder log (Failed text) ⊎ IsRefusedAt host setups (Failed text)
IsRefusal host log setups (Told text) =
    IsRefusedOrNone host setups (Told text) ⊎ IsTwice log (nodes_of host setups) (Told text)
IsRefusal host log setups NoMemory = Unit {0}
