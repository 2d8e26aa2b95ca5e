-- The fields of each object of a CONFIG, by name.
use Rattle.std.specs.Prelude.{ℕ, List, [], ◌∷◌, codes, Bool}
use Rattle.std.specs.List.{list_any}
use Rattle.std.specs.Str.{bytes_eq}
use Rattle.config_text.specs.declared.field.Field.{Field}
use Rattle.config_text.specs.declared.field.Field.TheVariants as fields
use Rattle.config_text.specs.declared.field.Shape.{Shape}
use Rattle.config_text.specs.declared.field.Shape.TheVariants as shapes

-- how a field is called
abbrev pub name_of : Field → List ℕ
name_of fields.Nodes = codes "nodes"
name_of fields.Host = codes "host"
name_of fields.Realm = codes "realm"
name_of fields.Address = codes "address"
name_of fields.Listen = codes "listen"
name_of fields.Peers = codes "peers"
name_of fields.Shards = codes "shards"
name_of fields.Pages = codes "pages"
name_of fields.Accounts = codes "accounts"
name_of fields.DefaultUnits = codes "default_units"
name_of fields.Desks = codes "desks"
name_of fields.Turns = codes "turns"
name_of fields.Tables = codes "tables"
name_of fields.Dictionary = codes "dictionary"
name_of fields.Id = codes "id"
name_of fields.Given = codes "given"
name_of fields.Lines = codes "lines"
name_of fields.Repeat = codes "repeat"
name_of fields.Peer = codes "peer"
name_of fields.Client = codes "client"
name_of fields.Server = codes "server"

-- the fields that an object may have, in the order in which they are read
abbrev pub fields_of : Shape → List Field
fields_of shapes.Config = fields.Nodes ∷ []
fields_of shapes.Node =
    fields.Host
    ∷ fields.Realm
    ∷ fields.Address
    ∷ fields.Listen
    ∷ fields.Peers
    ∷ fields.Shards
    ∷ fields.Pages
    ∷ fields.Accounts
    ∷ fields.DefaultUnits
    ∷ fields.Desks
    ∷ fields.Turns
    ∷ fields.Tables
    ∷ fields.Dictionary
    ∷ []
fields_of shapes.Peer = fields.Host ∷ fields.Address ∷ []
fields_of shapes.Account = fields.Id ∷ fields.Given ∷ []
fields_of shapes.Desk = fields.Lines ∷ fields.Repeat ∷ []
fields_of shapes.Tables = fields.Peer ∷ fields.Client ∷ fields.Server ∷ []

-- whether an object may have a field of this name
unfoldable pub is_known : Shape → List ℕ → Bool
is_known shape name = list_any (λ field. bytes_eq name (name_of field)) (fields_of shape)
