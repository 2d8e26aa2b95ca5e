-- A node of a CONFIG as an object of JSON (RFC 8259).
use Rattle.std.specs.Prelude.{◌==◌, ◌++◌, ◌∷◌, ◌||◌, ℕ, List, [], Option, None, Some, codes, decimal, drop, flat_map}
use Rattle.std.specs.Prelude.{nat_lt, if◌then◌else◌}
use Rattle.bench_open.specs.declared.account.Account.{Account}
use Rattle.config_text.specs.declared.node.DeskConfig.{DeskConfig}
use Rattle.config_text.specs.declared.node.Files.{Files}
use Rattle.config_text.specs.declared.node.NodeConfig.{NodeConfig}
use Rattle.config_text.specs.declared.node.PeerConfig.{PeerConfig}
use Rattle.dia_write.specs.declared.answer.Identity.{Identity}
use Rattle.hex.specs.Hex.{encode_lower}

-- an octet of a string: those below a blank, quotation marks and backslashes by their numbers (RFC 8259 section 7)
abbrev pub string_octet : ℕ → List ℕ
string_octet c = if nat_lt c 32 || (c == 34) || (c == 92) then codes "\\u00" ++ encode_lower (c ∷ []) else c ∷ []

unfoldable pub string : List ℕ → List ℕ
string text = codes "\"" ++ flat_map string_octet text ++ codes "\""

unfoldable pub string_or_null : Option (List ℕ) → List ℕ
string_or_null None = codes "null"
string_or_null (Some text) = string text

-- a list of items, each of which stands behind a comma and a blank, but for the first
unfoldable pub bracketed : List ℕ → List ℕ
bracketed items = codes "[" ++ drop 2 items ++ codes "]"

-- four numbers between dots
abbrev pub numbers_text : List ℕ → List ℕ
numbers_text numbers = flat_map (λ number. codes "." ++ decimal number) numbers

unfoldable pub address_text : List ℕ → List ℕ
address_text address = codes "\"" ++ drop 1 (numbers_text address) ++ codes "\""

abbrev pub peer_item : PeerConfig → List ℕ
peer_item peer =
    codes ", {\"host\": " ++ string peer.host ++ codes ", \"address\": " ++ string peer.address ++ codes "}"

abbrev pub peers_text : List PeerConfig → List ℕ
peers_text peers = bracketed (flat_map peer_item peers)

abbrev pub account_item : Account → List ℕ
account_item account =
    codes ", {\"id\": " ++ decimal account.id ++ codes ", \"given\": " ++ decimal account.given ++ codes "}"

abbrev pub accounts_text : List Account → List ℕ
accounts_text accounts = bracketed (flat_map account_item accounts)

abbrev pub line_item : List ℕ → List ℕ
line_item line = codes ", " ++ string line

abbrev pub lines_text : List (List ℕ) → List ℕ
lines_text lines = bracketed (flat_map line_item lines)

abbrev pub desk_item : DeskConfig → List ℕ
desk_item desk =
    codes ", {\"repeat\": " ++ decimal desk.repeat ++ codes ", \"lines\": " ++ lines_text desk.lines ++ codes "}"

abbrev pub desks_text : List DeskConfig → List ℕ
desks_text desks = bracketed (flat_map desk_item desks)

unfoldable pub identity_text : Identity → List ℕ
identity_text identity =
    codes "\"host\": " ++ string identity.host ++ codes ",\n    \"realm\": " ++ string identity.realm
    ++ codes ",\n    \"address\": " ++ address_text identity.address

unfoldable pub lists_text : NodeConfig → List ℕ
lists_text node =
    codes ",\n    \"peers\": " ++ peers_text node.peers ++ codes ",\n    \"accounts\": " ++ accounts_text node.accounts
    ++ codes ",\n    \"desks\": " ++ desks_text node.desks

unfoldable pub counts_text : NodeConfig → List ℕ
counts_text node =
    codes ",\n    \"shards\": " ++ decimal node.shards ++ codes ",\n    \"pages\": " ++ decimal node.pages
    ++ codes ",\n    \"default_units\": " ++ decimal node.default_units
    ++ codes ",\n    \"turns\": " ++ decimal node.turns

unfoldable pub files_text : Files → List ℕ
files_text files =
    codes ",\n    \"tables\": {\"peer\": " ++ string_or_null files.tables.peer
    ++ codes ", \"client\": " ++ string_or_null files.tables.client
    ++ codes ", \"server\": " ++ string_or_null files.tables.server
    ++ codes "},\n    \"dictionary\": " ++ string_or_null files.dictionary

-- a CONFIG of one node, which names these files
abbrev pub config_json : NodeConfig → Files → List ℕ
config_json node files =
    codes "{\"nodes\": [{\n    " ++ identity_text node.identity
    ++ codes ",\n    \"listen\": " ++ string_or_null node.listen
    ++ lists_text node ++ counts_text node ++ files_text files ++ codes "\n}]}\n"
