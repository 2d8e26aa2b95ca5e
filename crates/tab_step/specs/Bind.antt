-- Tables bound to a book of laws, and the first name that is missing.
use Rattle.std.specs.Prelude.{◌≡◌, ℕ, List, [], ◌∷◌, ◌++◌, Option, Some, map, filter, is_none}
use Rattle.std.specs.List.{AllZip, flat_map}
use Rattle.base_list.specs.Named.{place_of}
use Rattle.tab_law.specs.Books.{Laws}
use Rattle.base_list.specs.declared.named.Named.{Named}
use Rattle.tab_text.specs.Contents.{Contents}
use Rattle.tab_text.specs.declared.row.Row.{Row}
use Rattle.tab_step.specs.Moves.{name_at}
use Rattle.tab_step.specs.declared.bound.RowPlaces.{RowPlaces}
use Rattle.tab_step.specs.declared.binding.Unbound.{Unbound}
use Rattle.tab_step.specs.declared.binding.Unbound.TheVariants.{Missing, NoMemory}

-- the names that aren't registered
abbrev pub lacking : {T : Type 0} → List (Named T) → List (List ℕ) → List (List ℕ)
lacking entries names = filter (λ name. is_none (place_of name entries)) names

-- those of a row, in text order: its kind, its guards, its actions
abbrev pub lacking_in : Laws → Contents → Row → List (List ℕ)
lacking_in laws table row =
    lacking laws.kinds (name_at table.kinds row.kind ∷ [])
    ++ lacking laws.guards (map (name_at table.guards) row.guards)
    ++ lacking laws.acts (map (name_at table.actions) row.actions)

-- those of a table, row by row
abbrev pub missing : Laws → Contents → List (List ℕ)
missing laws table = flat_map (lacking_in laws table) table.rows

-- a table, and where each row's names stand in a book
pub record BoundTable : Type 0 where
  pub table : Contents
  pub places : List RowPlaces

-- these are the places of the row's names
pub record IsPlacesOf (laws : Laws) (table : Contents) (row : Row) (places : RowPlaces) : Type 0 where
  pub kind : place_of (name_at table.kinds row.kind) laws.kinds ≡ Some places.kind
  pub guards : map (λ number. place_of (name_at table.guards number) laws.guards) row.guards ≡ map Some places.guards
  pub actions : map (λ number. place_of (name_at table.actions number) laws.acts) row.actions ≡ map Some places.actions

-- a table is bound to a book: each row has the places of its names there
abbrev pub IsBoundTo : BoundTable → Laws → Type 0
IsBoundTo bound laws = AllZip (IsPlacesOf laws bound.table) bound.table.rows bound.places

-- the refusal names the first name that is missing, or memory was refused
abbrev pub IsUnbound : Option (List ℕ) → Unbound → Type 0
IsUnbound first (Missing name) = first ≡ Some name
IsUnbound first NoMemory = Unit {0}
