-- AVPs in their canonical encoding at every level.
use Rattle.std.specs.Prelude.{◌≡◌, ℕ, zero, suc, Bool, true, false, if◌then◌else◌, List, [], ◌∷◌, map}
use Rattle.dia_avp.specs.declared.avp.Avp.{Avp}
use Rattle.dia_avp.specs.Avps.{AvpsThen, IsLeftOver}
use Rattle.dia_avp.specs.Reading.{avps_in}
use Rattle.dia_avp.specs.Encoding.{encoding}
use Rattle.dia_dict.specs.declared.definition.Definition.{Definition}
use Rattle.dia_dict.specs.Dictionary.{definition_of}
use Rattle.dia_tree.specs.Kind.{is_grouped}

-- an AVP of which so many levels of groups hold the encoding of their AVPs: reserved bits and padding are zero, and the
-- last padding is there
unfoldable pub canonical : List Definition → ℕ → Avp → Avp
canonical definitions zero a = a
canonical definitions (suc n) a =
    if is_grouped (definition_of definitions a.code a.vendor)
    then record a { octets = encoding (map (canonical definitions n) (avps_in a.octets).0) }
    else a

-- AVPs are these, each in its canonical encoding; `Is` says it of one
abbrev pub AreEach : (Is : Avp → Avp → Type 0) → List Avp → List Avp → Type 0
AreEach Is [] list = list ≡ []
AreEach Is (a ∷ from) list = (b : Avp) × (later : List Avp) × Is a b × AreEach Is from later × (list ≡ b ∷ later)

-- the whole AVPs of a group's octets; `Is` says what each is in its canonical encoding
abbrev pub AreReencoded : (Is : Avp → Avp → Type 0) → List ℕ → List Avp → Type 0
AreReencoded Is octets list =
    (from : List Avp) × (left : List ℕ) × AvpsThen octets from left × IsLeftOver left × AreEach Is from list

-- b is a with the encoding of its AVPs as data where it is a group, and else a itself
abbrev pub IsCanonicalBy : (Is : Avp → Avp → Type 0) → Bool → Avp → Avp → Type 0
IsCanonicalBy Is true a b =
    (list : List Avp) × AreReencoded Is a.octets list × (b ≡ record a { octets = encoding list })
IsCanonicalBy Is false a b = b ≡ a

-- b is the AVP a with so many levels of groups in their canonical encoding (RFC 6733 section 4.1)
unfoldable pub IsCanonical : List Definition → ℕ → Avp → Avp → Type 0
IsCanonical definitions zero a b = b ≡ a
IsCanonical definitions (suc n) a b =
    IsCanonicalBy (IsCanonical definitions n) (is_grouped (definition_of definitions a.code a.vendor)) a b

-- the AVPs of a group's octets, each with so many levels of groups in their canonical encoding
abbrev pub AreCanonical : List Definition → ℕ → List ℕ → List Avp → Type 0
AreCanonical definitions n octets list = AreReencoded (IsCanonical definitions n) octets list
