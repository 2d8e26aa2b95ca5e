-- The octets by which a directory knows a machine.
use Rattle.std.specs.Prelude.{ℕ, ◌==◌, List, ◌∷◌, drop, slice_index, if◌then◌else◌}
use Rattle.bench_item.specs.declared.key.Key.{Key}
use Rattle.bench_item.specs.declared.key.Role.{Role}
use Rattle.bench_item.specs.declared.key.Role.TheVariants.{Peer, Client, Server}

-- the octet of a role
abbrev pub role_octet : Role → ℕ
role_octet Peer = 0
role_octet Client = 1
role_octet Server = 2

-- the octet of the role, and the octets of the name
abbrev pub key_octets : Key → List ℕ
key_octets key = role_octet key.role ∷ key.name

-- the machine that has these octets
abbrev pub octet_role : ℕ → Role
octet_role octet = if octet == 1 then Client else (if octet == 2 then Server else Peer)

abbrev pub key_in : List ℕ → Key
key_in octets = record { role = octet_role (slice_index octets 0); name = drop 1 octets }
