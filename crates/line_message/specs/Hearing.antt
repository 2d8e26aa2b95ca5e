-- Who listens: all that the meaning of messages depends on, by the laws of peers one place for each kind of their
-- events.
use Rattle.std.specs.Prelude.{ℕ, List, map, Option}
use Rattle.base_list.specs.Named.{place_of}
use Rattle.bench_item.specs.Keys.{Configured}
use Rattle.dia_dict.specs.declared.definition.Definition.{Definition}
use Rattle.dia_write.specs.declared.answer.Identity.{Identity}
use Rattle.peer_rules.specs.Kinds.{kinds}
use Rattle.tab_law.specs.Books.{Laws}

-- who this node is, what was added to its dictionary, its configured peers, the octets that a Requested-Service-Unit
-- without an amount asks for, and of each kind of a peer's events, in their order, its place in the book of laws, where
-- that has it
pub record Hearing : Type 0 where
  pub identity : Identity
  pub dictionary : List Definition
  pub peers : Configured
  pub default_units : ℕ
  pub places : List (Option ℕ)

-- the places of the kinds of a peer's events in a book of laws
abbrev pub places_in : Laws → List (Option ℕ)
places_in laws = map (λ kind. place_of kind.name laws.kinds) kinds

-- who listens, by these laws
abbrev pub hearing : Identity → List Definition → Configured → ℕ → Laws → Hearing
hearing identity dictionary peers default_units laws = record {
  identity = identity;
  dictionary = dictionary;
  peers = peers;
  default_units = default_units;
  places = places_in laws;
}
