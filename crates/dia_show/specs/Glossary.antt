-- What messages are read and printed by: the definitions that were added to the dictionary,
-- and names for the numbers of their data.
use Rattle.std.specs.Prelude.{ℕ, ◌==◌, ◌&&◌, Bool, List, [], Option, Some, None}
use Rattle.std.specs.List.{find}
use Rattle.dia_dict.specs.Dictionary.{same_vendor}
use Rattle.dia_dict.specs.declared.definition.Definition.{Definition}
use Rattle.dia_show.specs.Names.{entry_in}

-- the names that a dictionary gives to numbers of one AVP
pub record Naming : Type 0 where
  pub code : ℕ
  pub vendor : Option ℕ
  pub names : List (ℕ × List ℕ)

-- the definitions that were added to those which every dictionary has, and the names of their numbers
pub record Meanings : Type 0 where
  pub definitions : List Definition
  pub namings : List Naming

-- nothing is added
abbrev pub base_meanings : Meanings
base_meanings = record { definitions = []; namings = [] }

-- whether a naming is that of an AVP Code and a vendor, of which 0 counts as none
abbrev pub is_naming_of : ℕ → Option ℕ → Naming → Bool
is_naming_of code vendor n = (code == n.code) && same_vendor vendor n.vendor

-- the name that a naming has for a number, empty where it has none
abbrev pub name_in : Option Naming → ℕ → List ℕ
name_in None number = []
name_in (Some n) number = entry_in n.names number

-- the name that was added for a number of the AVP of a definition
abbrev pub added_name : List Naming → Definition → ℕ → List ℕ
added_name namings d number = name_in (find (is_naming_of d.code d.vendor) namings) number
