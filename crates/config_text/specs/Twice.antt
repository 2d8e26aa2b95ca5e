-- Names that stand twice in one object of JSON.
use Rattle.std.specs.Prelude.{◌≡◌, ℕ, zero, suc, Bool, List, Option, Some, None, Result, Ok, Err, ⊤, option_and_then}
use Rattle.std.specs.Prelude.{take, ◌||◌, false, if◌then◌else◌}
use Rattle.std.specs.Str.{bytes_eq}
use Rattle.json.specs.Json.{Json, null, boolean, number, string, array, object, Items, no_items, item, Members}
use Rattle.json.specs.Json.{no_members, member, document, max_depth}
use Rattle.config_text.specs.declared.fault.ConfigError.{ConfigError}
use Rattle.config_text.specs.declared.fault.ConfigError.TheVariants as errors
use Rattle.config_text.specs.declared.fault.Fault.{Fault}
use Rattle.config_text.specs.declared.fault.Wanted.TheVariants as wanted
use Rattle.config_text.specs.declared.object.TheConstants.{MAX_NAME}
use Rattle.config_text.specs.Faults.{fault_at}
use Rattle.config_text.specs.Places.{whole}

-- whether a member has this name
abbrev pub is_named : List ℕ → Members → Bool
is_named name no_members = false
is_named name (member key j ms) = bytes_eq key name || is_named name ms

abbrev pub or_else : Option (List ℕ) → Option (List ℕ) → Option (List ℕ)
or_else (Some name) other = Some name
or_else None other = other

-- in items, and in the values of members, by what is found in one value
abbrev pub twice_in_items : (Json → Option (List ℕ)) → Items → Option (List ℕ)
twice_in_items inside no_items = None
twice_in_items inside (item j js) = or_else (inside j) (twice_in_items inside js)

-- the first name that another member behind it has, or what is found in a value in front of that
abbrev pub twice_in_members : (Json → Option (List ℕ)) → Members → Option (List ℕ)
twice_in_members inside no_members = None
twice_in_members inside (member key j ms) =
    if is_named key ms then Some key else or_else (inside j) (twice_in_members inside ms)

abbrev pub twice_with : (Json → Option (List ℕ)) → Json → Option (List ℕ)
twice_with inside null = None
twice_with inside (boolean b) = None
twice_with inside (number s) = None
twice_with inside (string s) = None
twice_with inside (array js) = twice_in_items inside js
twice_with inside (object ms) = twice_in_members inside ms

-- the first name that stands twice in one object of a value, as deep as this
unfoldable pub first_twice : ℕ → Json → Option (List ℕ)
first_twice zero j = None
first_twice (suc depth) j = twice_with (first_twice depth) j

-- of a whole text
unfoldable pub twice_of : List ℕ → Option (List ℕ)
twice_of text = option_and_then (first_twice max_depth) (document text)

-- that none does
abbrev pub unless_twice : Option (List ℕ) → Result ⊤ Fault
unless_twice None = Ok tt
unless_twice (Some name) = Err (fault_at whole (wanted.Once (take MAX_NAME name)))

-- memory was wanting, or this is the fault
abbrev pub IsTwice : Result ⊤ Fault → ConfigError → Type 0
IsTwice found errors.NoMemory = Unit {0}
IsTwice found (errors.NotJson line column) = ⊥
IsTwice found (errors.Fault fault) = found ≡ Err fault
