-- Which machines can be told.
use Rattle.std.specs.Prelude.{ℕ, ◌&&◌, nat_le, nat_lt, Bool, false, List, length}
use Rattle.std.specs.List.{list_any}
use Rattle.std.specs.Str.{bytes_eq, is_utf8}
use Rattle.bench_item.specs.declared.key.Key.{Key}
use Rattle.bench_item.specs.declared.key.Role.{Role}
use Rattle.bench_item.specs.declared.key.Role.TheVariants.{Peer, Client, Server}

-- whether a desk can tell that machine anything: it is a configured peer's, or a client's session's, whose name has 1
-- to 255 octets of UTF-8
abbrev pub may_look : List (List ℕ) → Key → Bool
may_look hosts key = by key.role
  where
    by : Role → Bool
    by Peer = list_any (bytes_eq key.name) hosts
    by Client = nat_lt 0 (length key.name) && nat_le (length key.name) 255 && is_utf8 key.name
    by Server = false
