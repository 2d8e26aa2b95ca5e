-- Names as words.
use Rattle.std.specs.Prelude.{All, ℕ, ◌≤◌, ◌==◌, ◌&&◌, not, nat_le, Bool, List, [], ◌∷◌, ◌++◌, codes, find}
use Rattle.std.specs.Prelude.{length, slice_get, if◌then◌else◌}
use Rattle.std.specs.List.{flat_map}
use Rattle.std.specs.Option.{option_map_or}
use Rattle.hex.specs.Hex.{IsBytes, encode_lower}
use Rattle.base_list.specs.Named.{HasOwnNames}
use Rattle.base_list.specs.declared.named.Named.{Named}
use Rattle.tab_law.specs.Books.{Laws}
use Rattle.bench_item.specs.declared.key.Key.{Key}
use Rattle.bench_item.specs.declared.key.Role.{Role}
use Rattle.bench_item.specs.declared.key.Role.TheVariants.{Peer, Client, Server}

-- the kinds of events by their places, and the machines' numbers by the names of their keys
pub record Names : Type 0 where
  pub kinds : List (Named (Unit {0}))
  pub machines : List (Named ℕ)

abbrev pub names_of : Laws → List (Named ℕ) → Names
names_of laws machines = record { kinds = laws.kinds; machines = machines }

-- octets that stand for themselves: 21 to 7E but `%`
abbrev pub is_plain : ℕ → Bool
is_plain c = nat_le 33 c && nat_le c 126 && not (c == 37)

-- an octet as it is printed: itself, or `%` and two hexadecimal digits
abbrev pub shown_octet : ℕ → List ℕ
shown_octet c = if is_plain c then c ∷ [] else 37 ∷ encode_lower (c ∷ [])

-- a name as it is printed, a word without blanks
abbrev pub shown : List ℕ → List ℕ
shown name = flat_map shown_octet name

-- what stands before a machine's name
abbrev pub prefix_of : Role → List ℕ
prefix_of Peer = codes "p:"
prefix_of Client = codes "c:"
prefix_of Server = codes "s:"

-- the name of a key
abbrev pub key_name : Key → List ℕ
key_name key = prefix_of key.role ++ key.name

-- the word for a kind of events, `-` where the book has none at that place
abbrev pub kind_word : Names → ℕ → List ℕ
kind_word names kind = option_map_or (λ entry. shown entry.name) (slice_get names.kinds kind) (codes "-")

-- the word for a machine, `-` where none has that number
abbrev pub machine_word : Names → ℕ → List ℕ
machine_word names machine =
    option_map_or (λ entry. shown entry.name) (find (λ entry. entry.value == machine) names.machines) (codes "-")

-- no two machines have one key, there are no more than a node has, and keys are octets
pub record AreMachines (machines : List (Named ℕ)) : Type 0 where
  pub named : HasOwnNames machines
  pub few : length machines ≤ 65536
  pub octets : All (λ entry. IsBytes entry.name) machines
