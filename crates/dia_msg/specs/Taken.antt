-- Which AVPs the entries of a command's format take (RFC 6733 section 3.2).
use Rattle.std.specs.Prelude.{ℕ, Bool, true, not, ◌==◌, ◌&&◌, if◌then◌else◌, List, [], ◌∷◌, length, map, take, filter}
use Rattle.std.specs.Prelude.{slice_get, Option}
use Rattle.std.specs.List.{list_all}
use Rattle.dia_avp.specs.declared.avp.Avp.{Avp}
use Rattle.dia_avp.specs.Look.{is_coded}
use Rattle.dia_command.specs.declared.format.AvpFormat.{AvpFormat}

-- whether an AVP is one for an entry
abbrev pub is_for : AvpFormat → Avp → Bool
is_for f = is_coded f.code

-- the first AVP of a code
abbrev pub first_of : ℕ → List Avp → Option Avp
first_of code list = slice_get (filter (is_coded code) list) 0

-- the AVPs that an entry takes: all that are for it where several may stand, and else the first
abbrev pub taken : AvpFormat → List Avp → List Avp
taken f list = if f.several then filter (is_for f) list else take 1 (filter (is_for f) list)

-- all but the first AVP that passes a test
abbrev pub without_first : (Avp → Bool) → List Avp → List Avp
without_first test [] = []
without_first test (a ∷ list) = if test a then list else a ∷ without_first test list

-- the AVPs that an entry leaves, in order
abbrev pub left_by : AvpFormat → List Avp → List Avp
left_by f list = if f.several then filter (λ a. not (is_for f a)) list else without_first (is_for f) list

-- the AVPs that each entry takes
abbrev pub groups : List AvpFormat → List Avp → List (List Avp)
groups formats list = map (λ f. taken f list) formats

-- the AVPs that no entry takes, in order
abbrev pub untaken : List AvpFormat → List Avp → List Avp
untaken [] list = list
untaken (f ∷ formats) list = untaken formats (left_by f list)

-- whether an entry's AVP must be there and is missing
abbrev pub is_missing : List Avp → AvpFormat → Bool
is_missing list f = f.required && (length (taken f list) == 0)

-- the entries whose AVPs are missing, in order
abbrev pub missing : List AvpFormat → List Avp → List AvpFormat
missing formats list = filter (is_missing list) formats

-- no entry of a list has this one's code, and no two entries have one
abbrev pub is_new : AvpFormat → List AvpFormat → Bool
is_new f formats = list_all (λ g. not (f.code == g.code)) formats

abbrev pub is_distinct : List AvpFormat → Bool
is_distinct [] = true
is_distinct (f ∷ formats) = is_new f formats && is_distinct formats
