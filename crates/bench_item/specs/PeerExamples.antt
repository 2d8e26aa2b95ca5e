-- Peers with known values: a wrong definition doesn't pass these lines.
use Rattle.std.specs.Prelude.{◌≡◌, true, false, [], ◌∷◌, Some, None, codes, refl}
use Rattle.base_list.specs.declared.error.AddFault.TheVariants.{Taken}
use Rattle.bench_item.specs.Keys.{Configured, numbered}
use Rattle.bench_item.specs.Peers.{configured_host, is_same_host, number_of_peer, numbered_host, refusal}

-- case doesn't count; all else does
pub same : is_same_host (codes "C.Example") (codes "c.eXAMPLE") ≡ true
same = refl

pub other : is_same_host (codes "c.example") (codes "c.exampl") ≡ false
other = refl

-- the octets 91 to 96, which lie between the letters of the two cases, are no letters
pub no_letter : is_same_host (codes "[") (codes "{") ≡ false
no_letter = refl

-- three peers of two shards: the octet sums of `c.example`, `D.example` and `e.example` are 893, 862 and 895
abbrev three : Configured
three = record { hosts = codes "c.example" ∷ codes "D.example" ∷ codes "e.example" ∷ []; shards = 2 }

-- the first and the last are in the second shard, in their order
pub first : number_of_peer three 0 ≡ Some 4096
first = refl

pub second : number_of_peer three 1 ≡ Some 0
second = refl

pub third : number_of_peer three 2 ≡ Some 4097
third = refl

pub no_fourth : number_of_peer three 3 ≡ None
no_fourth = refl

-- a message may name it in any case; its shard is that of the configured spelling, and keys have that spelling
pub any_case : numbered_host three (codes "E.EXAMPLE") ≡ Some 4097
any_case = refl

pub own_shard : numbered_host three (codes "d.example") ≡ Some 0
own_shard = refl

pub as_configured : configured_host three (codes "d.example") ≡ Some (codes "D.example")
as_configured = refl

pub as_numbered : numbered three 0 ≡ Some (codes "D.example")
as_numbered = refl

pub no_peer : numbered_host three (codes "f.example") ≡ None
no_peer = refl

-- a host in another case is there already
pub taken : refusal (codes "d.Example") three ≡ Some Taken
taken = refl
