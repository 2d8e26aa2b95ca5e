-- The kinds of events of a server's machine (RFC 8506 section 7), in the order of their first appearance in the table.
use Rattle.std.specs.Prelude.{ℕ, List, [], ◌∷◌, codes, map}
use Rattle.base_list.specs.declared.named.Named.{Named}
use Rattle.tab_role.specs.Entries.{kind}
use Rattle.server_rules.specs.declared.kind.ServerKind.{ServerKind}
use Rattle.server_rules.specs.declared.kind.ServerKind.TheVariants.{Initial, Update, Terminate, Event, Tcc}

-- the name of each
abbrev pub name_of : ServerKind → List ℕ
name_of Initial = codes "Initial"
name_of Update = codes "Update"
name_of Terminate = codes "Terminate"
name_of Event = codes "Event"
name_of Tcc = codes "Tcc"

-- all of them
abbrev pub all : List ServerKind
all = Initial ∷ Update ∷ Terminate ∷ Event ∷ Tcc ∷ []

-- their names, as the kinds of a book
abbrev pub kinds : List (Named (Unit {0}))
kinds = map (λ k. kind (name_of k)) all
