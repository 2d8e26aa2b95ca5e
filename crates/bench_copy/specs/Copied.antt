-- What a bench is opened with, copied.
use Rattle.std.specs.Prelude.{◌≡◌, ◌<◌, ◌⊎◌, ◌+◌, ◌-◌, ℕ, Bool, false, true, List, length, take}
use Rattle.bench_open.specs.declared.config.Config.{Config}
use Rattle.dia_dict.specs.Base.{base}
use Rattle.dia_dict.specs.Dictionary.{known}
use Rattle.dia_dict.specs.declared.definition.Definition.{Definition}
use Rattle.dia_dict.specs.declared.table.TheConstants.{MAX_DEFINITIONS}
use Rattle.tab_print.specs.Printed.{printed}
use Rattle.tab_text.specs.Contents.{Contents}
use Rattle.tab_text.specs.declared.limits.TheConstants.{MAX_TEXT}

-- the same table, but for the lines on which its rows begin
abbrev pub IsCopy : Contents → Contents → Type 0
IsCopy table copy = record copy { lines = table.lines } ≡ table

-- what was added to a dictionary, as far as it stands before a place of all its definitions
abbrev pub front_to : List Definition → (place : ℕ) → List Definition
front_to added place = take (place - length base) added

-- there is a definition at a place, and the copy has all up to it
pub record HasFront (added : List Definition) (place : ℕ) (copy : List Definition) : Type 0 where
  pub front : copy ≡ front_to added (place + 1)
  pub within : place < length (known added)

-- that, or there is none, and it has all
abbrev pub Adds : List Definition → (place : ℕ) → (copy : List Definition) → (there : Bool) → Type 0
Adds added place copy true = HasFront added place copy
Adds added place copy false = copy ≡ added

-- a table is not copied: its text is longer than one may be
abbrev pub IsLong : Contents → Type 0
IsLong table = MAX_TEXT < length (printed table)

-- a dictionary is not: it has more than one may have
abbrev pub IsWide : List Definition → Type 0
IsWide added = MAX_DEFINITIONS < length (known added)

-- so all of a bench is not
abbrev pub IsUncopied : Config → Type 0
IsUncopied config = IsLong config.peer ⊎ IsLong config.client ⊎ IsLong config.server ⊎ IsWide config.dictionary

-- all is the same, but for the lines on which rows of tables begin
pub record IsCopied (config copy : Config) : Type 0 where
  pub identity : copy.identity ≡ config.identity
  pub peers : copy.peers.items ≡ config.peers.items
  pub accounts : copy.accounts.items ≡ config.accounts.items
  pub shards : copy.shards ≡ config.shards
  pub pages : copy.pages ≡ config.pages
  pub desks : copy.desks ≡ config.desks
  pub default_units : copy.default_units ≡ config.default_units
  pub dictionary : copy.dictionary ≡ config.dictionary
  pub peer : IsCopy config.peer copy.peer
  pub client : IsCopy config.client copy.client
  pub server : IsCopy config.server copy.server
