-- In which styles messages are printed, and how reading them ended.
use Rattle.std.specs.Prelude.{◌≡◌, ◌⊎◌, ◌≤◌, ◌^◌, ◌++◌, ℕ, Bool, List, [], length, drop, true, false, Option}
use Rattle.std.specs.Prelude.{None, codes, decimal}
use Rattle.dia_dict.specs.Dictionary.{known}
use Rattle.dia_show.specs.Glossary.{Meanings}
use Rattle.dia_frame.specs.declared.fault.FrameFault.{FrameFault}
use Rattle.dia_frame.specs.declared.fault.FrameFault.TheVariants.{Version, Length, Broken}
use Rattle.msg_explain.specs.Explained.{Explains}
use Rattle.msg_json.specs.Lines.{SaysInJson}
use Rattle.msg_input.specs.Ends.{end_text}
use Rattle.msg_input.specs.ByLine.{AreLinesOf, says_by}
use Rattle.msg_input.specs.Inputs.{IsPrintedOf, Printing}
use Rattle.msg_input.specs.Printed.{Saying}
use Rattle.msg_text.specs.Printed.{Prints}
use Rattle.msg_input.specs.declared.ends.Refusal.TheVariants as refusals
use Rattle.msg_input.specs.declared.ends.End.{End}
use Rattle.msg_input.specs.declared.ends.End.TheVariants.{Whole, Refused, ReadFailed, TooManyReads}
use Rattle.msg_input.specs.declared.ends.Place.{Place}
use Rattle.msg_input.specs.declared.style.Style.{Style}
use Rattle.msg_input.specs.declared.style.Style.TheVariants.{Plain, Explained, Json}

-- plainly: header, AVPs and encoding, or a fault, wherever the message stands
abbrev pub IsPlain : Meanings → Option ℕ → Saying
IsPlain g line number offset octets text refused = Prints g.definitions octets text refused

-- and the end without its place
abbrev pub plain_end : End → Place → List ℕ
plain_end end place = end_text end

-- in names; of octets that no length of an AVP or message could tell, only that they are too many
abbrev pub IsExplained : Meanings → Option ℕ → Saying
IsExplained g line number offset octets text refused =
    Explains g.namings (known g.definitions) line number offset octets text refused
    ⊎ ((2 ^ 32 ≤ length octets) × (text ≡ codes "too long\n") × (refused ≡ true))

-- what a frame fault is, at an octet of the input (RFC 6733 section 3)
abbrev pub frame_words : FrameFault → ℕ → List ℕ
frame_words Version octet =
    codes "frame fault 1 at octet " ++ decimal octet
    ++ codes ": no message begins here, its first octet would be version 1\n"
frame_words Length octet =
    codes "frame fault 2 at octet " ++ decimal octet
    ++ codes ": the length in this header is below 20, no multiple of 4 or over 4096\n"
frame_words Broken octet =
    codes "frame fault 3 at octet " ++ decimal octet ++ codes ": a frame fault came before\n"

-- and the end with its place
abbrev pub explained_end : End → Place → List ℕ
explained_end (Refused refusals.BadHex) place =
    codes "bad hex at character " ++ decimal place.characters
    ++ codes ": each octet wants two hexadecimal digits, and between digits only blanks may stand\n"
explained_end (Refused (refusals.Frame fault)) place = frame_words fault place.octets
explained_end (Refused refusals.NoMemory) place = end_text (Refused refusals.NoMemory)
explained_end Whole place = end_text Whole
explained_end ReadFailed place = end_text ReadFailed
explained_end TooManyReads place = end_text TooManyReads

-- as an object of JSON; of octets that no length of an AVP or message could tell, only that they are too many
abbrev pub IsJson : Meanings → Option ℕ → Saying
IsJson g line number offset octets text refused =
    SaysInJson (known g.definitions) octets text refused
    ⊎ ((2 ^ 32 ≤ length octets) × (text ≡ codes "{\"stop\":\"too long\"}\n") × (refused ≡ true))

-- the object of a frame fault, at an octet of the input (RFC 6733 section 3)
abbrev pub json_fault : FrameFault → ℕ → List ℕ
json_fault Version octet =
    codes "{\"stop\":\"frame fault 1\",\"octet\":"
    ++ decimal octet ++ codes ",\"reason\":\"no message begins here, its first octet would be version 1\"}\n"
json_fault Length octet =
    codes "{\"stop\":\"frame fault 2\",\"octet\":" ++ decimal octet
    ++ codes ",\"reason\":\"the length in this header is below 20, no multiple of 4 or over 4096\"}\n"
json_fault Broken octet =
    codes "{\"stop\":\"frame fault 3\",\"octet\":"
    ++ decimal octet ++ codes ",\"reason\":\"a frame fault came before\"}\n"

-- and the end as one more object, nothing where the input was read whole
abbrev pub json_end : End → Place → List ℕ
json_end Whole place = end_text Whole
json_end (Refused refusals.BadHex) place =
    codes "{\"stop\":\"bad hex\",\"character\":" ++ decimal place.characters
    ++ codes ",\"reason\":\"each octet wants two hexadecimal digits, and between digits only blanks may stand\"}\n"
json_end (Refused (refusals.Frame fault)) place = json_fault fault place.octets
json_end (Refused refusals.NoMemory) place = codes "{\"stop\":\"no memory\"}\n"
json_end ReadFailed place = codes "{\"stop\":\"read fault\",\"reason\":\"a read failed\"}\n"
json_end TooManyReads place = codes "{\"stop\":\"read fault\",\"reason\":\"no end of input after 1048576 reads\"}\n"

-- what is told of the end of a line, by its number and what its end prints by itself: nothing where it was read whole
abbrev pub line_end : ℕ → End → List ℕ → List ℕ
line_end number Whole text = []
line_end number (Refused why) text = codes "line " ++ decimal number ++ codes ": " ++ text
line_end number ReadFailed text = []
line_end number TooManyReads text = []

-- the end of a line that is read by itself: plainly and in names behind the line's number
abbrev pub plain_line : ℕ → End → Place → List ℕ
plain_line number end place = line_end number end (plain_end end place)

abbrev pub explained_line : ℕ → End → Place → List ℕ
explained_line number end place = line_end number end (explained_end end place)

-- and as an object that has the line's number, too
abbrev pub json_line_end : ℕ → End → List ℕ → List ℕ
json_line_end number Whole object = []
json_line_end number (Refused why) object = codes "{\"line\":" ++ decimal number ++ codes "," ++ drop 1 object
json_line_end number ReadFailed object = []
json_line_end number TooManyReads object = []

abbrev pub json_line : ℕ → End → Place → List ℕ
json_line number end place = json_line_end number end (json_end end place)

-- what is printed of a message, by the style, and by the line in which it stands, where each is read by itself
abbrev pub says_in : Style → Meanings → Option ℕ → Saying
says_in Plain = IsPlain
says_in Explained = IsExplained
says_in Json = IsJson

-- what is printed at the end, by the style
abbrev pub end_in : Style → End → Place → List ℕ
end_in Plain = plain_end
end_in Explained = explained_end
end_in Json = json_end

-- what is told of the end of a line, by the style
abbrev pub line_in : Style → ℕ → End → Place → List ℕ
line_in Plain = plain_line
line_in Explained = explained_line
line_in Json = json_line

-- what is printed of a text, by the style, by whether each line is read by itself,
-- and by what was added to the dictionary
abbrev pub printed_in : Style → Bool → Meanings → Printing
printed_in style false g = IsPrintedOf (says_in style g None) 0
printed_in style true g = AreLinesOf (says_by (says_in style g)) (line_in style)
