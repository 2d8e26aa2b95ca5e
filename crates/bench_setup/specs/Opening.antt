-- Why a bench is not opened, and what is wanted.
use Rattle.std.specs.Prelude.{ℕ, List, codes, Option, Some, None}
use Rattle.std.specs.Option.{option_and_then, option_or}
use Rattle.bench_spec.specs.Opening.{Config, laws_of, opening_refusal}
use Rattle.bench_spec.specs.declared.opening.OpeningError.{OpeningError}
use Rattle.bench_spec.specs.declared.opening.OpeningError.TheVariants as errors
use Rattle.fault_text.specs.Faults.{unbound_text}
use Rattle.fault_text.specs.Spots.{unbound_place}
use Rattle.fault_text.specs.declared.spots.RowPlace.{RowPlace}
use Rattle.tab_law.specs.Books.{Laws}
use Rattle.tab_text.specs.Contents.{Contents}

-- why a bench is not opened, and what is wanted, memory aside
abbrev pub opening_text : Laws → OpeningError → Option (List ℕ)
opening_text laws errors.Limits =
    Some (codes "not opened: limits\n  wanted: 1 to 16 shards, 1 to 8 pages, at most 16 desks and 64 peers\n")
opening_text laws errors.Names =
    Some (codes "not opened: names\n  wanted: a host, a realm and peers of 1 to 255 octets of ASCII, each peer once\n")
opening_text laws errors.Laws = Some (codes "not opened: laws\n")
opening_text laws (errors.Unbound name) = Some (unbound_text laws None name)
opening_text laws errors.Account = Some
    (codes "not opened: account\n  wanted: numbers from 1, each once, at most 2^62 units, 1024 accounts on a page\n")
opening_text laws errors.NoMemory = None

-- the first row with a name that the laws lack: of the peers' table, of the clients' or of the servers'
abbrev pub unbound_in : Laws → (peer client server : Contents) → Option RowPlace
unbound_in laws peer client server =
    option_or (unbound_place laws peer) (option_or (unbound_place laws client) (unbound_place laws server))

abbrev pub unbound_at : Config → Option RowPlace
unbound_at config = unbound_in (laws_of config) config.peer config.client config.server

-- why a bench is not opened, where a name that the laws lack is told with its row
abbrev pub opening_text_at : Laws → Option RowPlace → OpeningError → Option (List ℕ)
opening_text_at laws place (errors.Unbound name) = Some (unbound_text laws place name)
opening_text_at laws place error = opening_text laws error

-- why the bench of a configuration is not opened; none where it is
abbrev pub opening_told : Config → Option (List ℕ)
opening_told config = option_and_then (opening_text_at (laws_of config) (unbound_at config)) (opening_refusal config)
