-- The shipped roles.
use Rattle.std.specs.Prelude.{ℕ, List, [], Option, Some, None, codes, if◌then◌else◌}
use Rattle.std.specs.Str.{bytes_eq}
use Rattle.client_rules.specs.Laws.{client_laws}
use Rattle.peer_rules.specs.Laws.{peer_laws}
use Rattle.role_tables.specs.declared.client.TheConstants.{CLIENT_TABLE}
use Rattle.role_tables.specs.declared.peer.TheConstants.{PEER_TABLE}
use Rattle.role_tables.specs.declared.server.TheConstants.{SERVER_TABLE}
use Rattle.server_rules.specs.Laws.{server_laws}
use Rattle.tab_law.specs.Books.{Laws}
use Rattle.tab_role.specs.Roles.{joined}

-- the text of the table of a role
unfoldable pub table_named : List ℕ → Option (List ℕ)
table_named name =
    if bytes_eq name (codes "peer") then Some PEER_TABLE.now
    else if bytes_eq name (codes "client") then Some CLIENT_TABLE.now
    else if bytes_eq name (codes "server") then Some SERVER_TABLE.now
    else None

-- a book without names
abbrev pub no_laws : Laws
no_laws = record { kinds = []; guards = []; acts = [] }

-- the laws of all roles, one behind the other
unfoldable pub all_laws : Laws
all_laws = joined server_laws (joined client_laws (joined peer_laws no_laws))
