-- What the words of a line of a dictionary are.
use Rattle.std.specs.Prelude.{ℕ, ◌^◌, ◌==◌, nat_lt, Bool, true, false, List, [], ◌∷◌, Option, Some, None}
use Rattle.std.specs.Prelude.{codes, option_map, if◌then◌else◌}
use Rattle.std.specs.List.{slice_split, list_any}
use Rattle.std.specs.Str.{bytes_eq}
use Rattle.base_text.specs.Numbers.{number_of}
use Rattle.text_parts.specs.Lines.{is_comment, is_plain}
use Rattle.text_parts.specs.Words.{Word}
use Rattle.dia_dict.specs.declared.definition.AvpKind.{AvpKind}
use Rattle.dia_dict.specs.declared.definition.AvpKind.TheVariants.{Unsigned32, Unsigned64, Enumerated, Utf8String}
use Rattle.dia_dict.specs.declared.definition.AvpKind.TheVariants.{DiameterIdentity, Address, Grouped}
use Rattle.dia_dict.specs.declared.definition.AvpKind.TheVariants.{Time, OctetString}

-- the words in front of a comment, which begins with the first word that begins with `#`
abbrev pub said : List Word → List (List ℕ)
said [] = []
said (word ∷ words) = if is_comment word.octets then [] else word.octets ∷ said words

-- a number of 32 bits
abbrev pub small : Option ℕ → Option ℕ
small None = None
small (Some number) = if nat_lt number (2 ^ 32) then Some number else None

abbrev pub small_number : List ℕ → Option ℕ
small_number word = small (number_of word)

-- a code and a vendor
abbrev pub both : Option ℕ → Option ℕ → Option (ℕ × Option ℕ)
both None vendor = None
both (Some code) None = None
both (Some code) (Some vendor) = Some (code, Some vendor)

-- a code alone, or a code and a vendor
abbrev pub code_in : List (List ℕ) → Option (ℕ × Option ℕ)
code_in [] = None
code_in (code ∷ []) = option_map (λ number. (number, None)) (small_number code)
code_in (code ∷ vendor ∷ []) = both (small_number code) (small_number vendor)
code_in (code ∷ vendor ∷ other ∷ others) = None

-- the code and vendor of `CODE` or `CODE/VENDOR`
unfoldable pub code_of : List ℕ → Option (ℕ × Option ℕ)
code_of word = code_in (slice_split (λ c. c == 47) word)

-- a type by its name in the standard (RFC 6733 sections 4.2 and 4.3.1)
abbrev pub kind_named : List ℕ → Option AvpKind
kind_named word =
    if bytes_eq word (codes "Unsigned32") then Some Unsigned32
    else if bytes_eq word (codes "Unsigned64") then Some Unsigned64
    else if bytes_eq word (codes "Enumerated") then Some Enumerated
    else if bytes_eq word (codes "UTF8String") then Some Utf8String
    else if bytes_eq word (codes "DiameterIdentity") then Some DiameterIdentity
    else if bytes_eq word (codes "Address") then Some Address
    else if bytes_eq word (codes "Grouped") then Some Grouped
    else if bytes_eq word (codes "Time") then Some Time
    else if bytes_eq word (codes "OctetString") then Some OctetString
    else None

-- whether numbers of a type may have names
abbrev pub has_names : AvpKind → Bool
has_names Unsigned32 = true
has_names Enumerated = true
has_names kind = false

-- a number and a name that isn't empty, of printable characters
abbrev pub name_with : Option ℕ → List ℕ → Option (ℕ × List ℕ)
name_with None name = None
name_with (Some number) [] = None
name_with (Some number) (c ∷ name) = if is_plain (c ∷ name) then Some (number, c ∷ name) else None

abbrev pub name_between : List (List ℕ) → Option (ℕ × List ℕ)
name_between [] = None
name_between (number ∷ []) = None
name_between (number ∷ name ∷ []) = name_with (small_number number) name
name_between (number ∷ name ∷ other ∷ others) = None

-- the number and the name of `VALUE=NAME`
unfoldable pub name_in : List ℕ → Option (ℕ × List ℕ)
name_in word = name_between (slice_split (λ c. c == 61) word)

-- whether a number has a name already
abbrev pub is_named : ℕ → List (ℕ × List ℕ) → Bool
is_named number names = list_any (λ entry. entry.0 == number) names
