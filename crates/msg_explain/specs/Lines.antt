-- The line of an AVP: where it lies, its code, name, flags, length and value.
use Rattle.std.specs.Prelude.{ℕ, ◌*◌, ◌-◌, min, nat_lt, ◌&&◌, List, [], ◌∷◌, ◌++◌, take, drop, slice_index, codes}
use Rattle.std.specs.Prelude.{decimal, Option, None, Some, Result, Ok, Err, if◌then◌else◌}
use Rattle.byteorder.specs.Endian.{big_number}
use Rattle.dia_avp.specs.declared.avp.Avp.{Avp}
use Rattle.dia_avp.specs.declared.fault.FaultCode.{FaultCode}
use Rattle.dia_avp.specs.declared.fault.FaultCode.TheVariants.{ShortHeader, LengthBelowHeader, PastEnd}
use Rattle.dia_avp.specs.declared.fault.FaultCode.TheVariants.{TooMany, TooDeep}
use Rattle.dia_avp.specs.Avps.{has_flag}
use Rattle.dia_avp.specs.Reading.{avp_at}
use Rattle.dia_dict.specs.declared.definition.Definition.{Definition}
use Rattle.dia_dict.specs.Dictionary.{definition_of}
use Rattle.dia_tree.specs.Kind.{is_grouped}
use Rattle.dia_tree.specs.Faults.{cut_avp}
use Rattle.dia_show.specs.Glossary.{Naming}
use Rattle.dia_show.specs.Parts.{octets_text}
use Rattle.dia_show.specs.Values.{value_text}
use Rattle.msg_explain.specs.Parts.{Piece, length_at}

-- two blanks, and two more for each group that it stands in
abbrev pub indent : ℕ → List ℕ
indent room = take (10 - 2 * min room 4) (codes "          ")

-- `  20: `
unfoldable pub place_text : Piece → List ℕ
place_text p = indent p.room ++ decimal p.place ++ codes ": "

-- a flag's letter, or `-` where it isn't set
unfoldable pub flag_letter : ℕ → ℕ → ℕ → ℕ
flag_letter flags mask sign = if has_flag mask flags then sign else 45

-- `V`, `M`, `P`
unfoldable pub flag_letters : ℕ → List ℕ
flag_letters flags = flag_letter flags 128 86 ∷ flag_letter flags 64 77 ∷ flag_letter flags 32 80 ∷ []

-- `/10415` with flag V
unfoldable pub vendor_text : List ℕ → List ℕ
vendor_text octets =
    if has_flag 128 (slice_index octets 4) then codes "/" ++ decimal (big_number 4 (drop 8 octets)) else []

-- the name of the dictionary
abbrev pub name_text : Option Definition → List ℕ
name_text None = codes "unknown"
name_text (Some d) = d.name

-- `264 Origin-Host`; octets that are missing count as zero
unfoldable pub code_text : Option Definition → List ℕ → List ℕ
code_text definition octets = decimal (big_number 4 octets) ++ vendor_text octets ++ codes " " ++ name_text definition

-- `264 Origin-Host -M- 17`
unfoldable pub title_text : Option Definition → List ℕ → List ℕ
title_text definition octets =
    code_text definition octets ++ codes " "
    ++ flag_letters (slice_index octets 4) ++ codes " " ++ decimal (length_at octets)

-- what the data says, by the names that were added, behind one blank; a group that is opened has its AVPs below
unfoldable pub data_text : List Naming → Option Definition → ℕ → List ℕ → List ℕ
data_text namings definition room octets =
    if is_grouped definition && nat_lt 0 room then [] else codes " " ++ value_text namings definition octets

-- what is wrong with an AVP that is broken
unfoldable pub broken_words : FaultCode → List ℕ
broken_words ShortHeader = codes "its header is cut off"
broken_words LengthBelowHeader = codes "its length is below that of its header"
broken_words PastEnd = codes "it runs past the end"
broken_words TooMany = codes "it is one AVP too many"
broken_words TooDeep = codes "it opens one level too many"

-- the same of one that is broken, with all octets behind it
unfoldable pub broken_text : FaultCode → List ℕ → List ℕ
broken_text code octets = codes ": broken, " ++ broken_words code ++ codes ": " ++ octets_text octets

-- the AVP at the front of octets without its place, or what is broken there with all octets behind it
abbrev pub front_text : List Naming → List Definition → ℕ → List ℕ → Result (Avp × List ℕ) FaultCode → List ℕ
front_text namings definitions room octets (Ok x) =
    let definition = definition_of definitions x.0.code x.0.vendor in
    title_text definition octets ++ data_text namings definition room x.0.octets
front_text namings definitions room octets (Err code) =
    title_text (definition_of definitions (cut_avp octets).code (cut_avp octets).vendor) octets
    ++ broken_text code octets

-- the line of a part
unfoldable pub part_line : List Naming → List Definition → Piece → List ℕ
part_line namings definitions p =
    place_text p ++ front_text namings definitions p.room p.octets (avp_at p.octets) ++ codes "\n"
