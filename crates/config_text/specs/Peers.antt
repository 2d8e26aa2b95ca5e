-- The peers of a node.
use Rattle.std.specs.Prelude.{ℕ, List, Result}
use Rattle.serde_json.specs.Data.{Data}
use Rattle.config_text.specs.declared.fault.Fault.{Fault}
use Rattle.config_text.specs.declared.field.Field.TheVariants as fields
use Rattle.config_text.specs.declared.field.Shape.TheVariants as shapes
use Rattle.config_text.specs.declared.node.PeerConfig.{PeerConfig}
use Rattle.config_text.specs.declared.place.Place.{Place}
use Rattle.config_text.specs.Answers.{after, both, made}
use Rattle.config_text.specs.Leaves.{text_in}
use Rattle.config_text.specs.Objects.{object_of}
use Rattle.config_text.specs.Places.{item_at}

abbrev pub peer_with : List ℕ × List ℕ → PeerConfig
peer_with read = record { host = read.0; address = read.1 }

-- a peer: its host, and where it is dialled
abbrev pub peer_at : Place → Data → Result PeerConfig Fault
peer_at place d =
    after (object_of place shapes.Peer d)
    (made peer_with (both (text_in place fields.Host d) (text_in place fields.Address d)))

abbrev pub peer_of : Place → ℕ → Data → Result PeerConfig Fault
peer_of list index d = peer_at (item_at index list) d
