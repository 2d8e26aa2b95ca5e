-- The nodes of a CONFIG.
use Rattle.std.specs.Prelude.{ℕ, List, Option, Result}
use Rattle.serde_json.specs.Data.{Data}
use Rattle.config_text.specs.declared.fault.Fault.{Fault}
use Rattle.config_text.specs.declared.field.Field.TheVariants as fields
use Rattle.config_text.specs.declared.field.Shape.TheVariants as shapes
use Rattle.config_text.specs.declared.node.DeskConfig.{DeskConfig}
use Rattle.config_text.specs.declared.node.Files.{Files}
use Rattle.config_text.specs.declared.node.NodeConfig.{NodeConfig}
use Rattle.config_text.specs.declared.node.PeerConfig.{PeerConfig}
use Rattle.config_text.specs.declared.node.TheConstants.{DEFAULT_PAGES, DEFAULT_SHARDS, DEFAULT_TURNS, DEFAULT_UNITS}
use Rattle.config_text.specs.declared.nodes.Book.{Book}
use Rattle.config_text.specs.declared.nodes.Links.{Links}
use Rattle.config_text.specs.declared.nodes.Work.{Work}
use Rattle.config_text.specs.declared.place.Place.{Place}
use Rattle.bench_open.specs.declared.account.Account.{Account}
use Rattle.dia_write.specs.declared.answer.Identity.{Identity}
use Rattle.config_text.specs.Accounts.{account_of}
use Rattle.config_text.specs.Answers.{after, both, made}
use Rattle.config_text.specs.Desks.{desk_of}
use Rattle.config_text.specs.Files.{files_of}
use Rattle.config_text.specs.Identities.{identity_of}
use Rattle.config_text.specs.Leaves.{text_or_none, whole_or}
use Rattle.config_text.specs.Objects.{object_of}
use Rattle.config_text.specs.Parts.{list_in, list_or_none}
use Rattle.config_text.specs.Peers.{peer_of}
use Rattle.config_text.specs.Places.{node_at as place_of, whole}

abbrev pub links_with : Identity × (Option (List ℕ) × List PeerConfig) → Links
links_with read = record { identity = read.0; listen = read.1.0; peers = read.1.1 }

-- who a node is, where it listens, its peers
unfoldable pub links_of : Place → Data → Result Links Fault
links_of place d =
    made links_with (both (identity_of place d)
    (both (text_or_none place fields.Listen d) (list_or_none peer_of place fields.Peers d)))

abbrev pub book_with : (ℕ × ℕ) × (List Account × ℕ) → Book
book_with read = record { shards = read.0.0; pages = read.0.1; accounts = read.1.0; default_units = read.1.1 }

-- how many shards and pages there are
unfoldable pub sizes_of : Place → Data → Result (ℕ × ℕ) Fault
sizes_of place d = both (whole_or DEFAULT_SHARDS place fields.Shards d) (whole_or DEFAULT_PAGES place fields.Pages d)

-- how many shards and pages there are, the accounts, the default units
unfoldable pub book_of : Place → Data → Result Book Fault
book_of place d =
    made book_with
    (both (sizes_of place d) (both (list_or_none account_of place fields.Accounts d)
    (whole_or DEFAULT_UNITS place fields.DefaultUnits d)))

abbrev pub work_with : List DeskConfig × (ℕ × Files) → Work
work_with read = record { desks = read.0; turns = read.1.0; files = read.1.1 }

-- the desks, the turns of a run, the files
unfoldable pub work_of : Place → Data → Result Work Fault
work_of place d =
    made work_with (both (list_or_none desk_of place fields.Desks d)
    (both (whole_or DEFAULT_TURNS place fields.Turns d) (files_of place d)))

abbrev pub node_with : Links × (Book × Work) → NodeConfig
node_with read = record {
  identity = read.0.identity;
  listen = read.0.listen;
  peers = read.0.peers;
  shards = read.1.0.shards;
  pages = read.1.0.pages;
  accounts = read.1.0.accounts;
  default_units = read.1.0.default_units;
  desks = read.1.1.desks;
  turns = read.1.1.turns;
  files = read.1.1.files;
}

-- a node: an object that has no other field, and then the fields in their order
unfoldable pub node_at : Place → Data → Result NodeConfig Fault
node_at place d = after (object_of place shapes.Node d) (made node_with
    (both (links_of place d) (both (book_of place d) (work_of place d))))

-- the node at an index of the list of all
abbrev pub node_of : Place → ℕ → Data → Result NodeConfig Fault
node_of list index d = node_at (place_of index) d

-- all nodes, or the first fault
abbrev pub nodes_of : Data → Result (List NodeConfig) Fault
nodes_of d = after (object_of whole shapes.Config d) (list_in node_of whole fields.Nodes d)
