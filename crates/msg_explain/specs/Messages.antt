-- The line of a message: its number, where it begins, its command, header and session.
use Rattle.std.specs.Prelude.{ℕ, nat_lt, List, [], ◌∷◌, ◌++◌, length, drop, slice_index, codes, decimal, Option}
use Rattle.std.specs.Prelude.{None, Some, if◌then◌else◌}
use Rattle.std.specs.Option.{option_map}
use Rattle.std.specs.List.{find}
use Rattle.std.specs.Borrow.{Bor}
use Rattle.dia_avp.specs.declared.avp.Avp.{Avp}
use Rattle.dia_avp.specs.Reading.{avps_in}
use Rattle.dia_avp.specs.Look.{is_coded}
use Rattle.dia_command.specs.declared.header.Header.{Header}
use Rattle.dia_command.specs.Header.{header_in}
use Rattle.dia_show.specs.Names.{command_text}
use Rattle.dia_show.specs.Parts.{quoted, octets_text}
use Rattle.msg_explain.specs.Lines.{flag_letter}

-- `R`, `P`, `E`, `T`
unfoldable pub header_letters : ℕ → List ℕ
header_letters flags =
    flag_letter flags 128 82 ∷ flag_letter flags 64 80 ∷ flag_letter flags 32 69 ∷ flag_letter flags 16 84 ∷ []

-- the data of the first Session-Id among the AVPs that octets are
abbrev pub session_in : List ℕ → Option (List ℕ)
session_in octets = option_map (λ (a : Avp). a.octets) (find (is_coded 263) (avps_in octets).0)

-- octets behind a reference, as a value
abbrev pub bytes_of : Option (Bor (List ℕ)) → Option (List ℕ)
bytes_of octets = option_map (λ (o : Bor (List ℕ)). o.now) octets

-- the session, nothing where there is none
abbrev pub session_text : Option (List ℕ) → List ℕ
session_text None = []
session_text (Some name) = codes ", session " ++ quoted name

-- ` of line 5`, where each line is read by itself
abbrev pub of_line : Option ℕ → List ℕ
of_line None = []
of_line (Some line) = codes " of line " ++ decimal line

-- `message 1 at octet 0: `, and `message 6 at octet 0 of line 5: `
unfoldable pub numbered : Option ℕ → ℕ → ℕ → List ℕ
numbered line number offset =
    codes "message " ++ decimal number ++ codes " at octet " ++ decimal offset ++ of_line line ++ codes ": "

-- `CCR Credit-Control-Request RP--`
unfoldable pub command_line : List ℕ → List ℕ
command_line octets =
    command_text (header_in octets).command (header_in octets).flags.request
    ++ codes " " ++ header_letters (slice_index octets 4)

-- `, version 1, length 84, command 272`
unfoldable pub front_fields : ℕ → Header → List ℕ
front_fields version h =
    codes ", version " ++ decimal version ++ codes ", length "
    ++ decimal h.length ++ codes ", command " ++ decimal h.command

-- `, application 4`
unfoldable pub application_text : Header → List ℕ
application_text h = codes ", application " ++ decimal h.application

-- `, hop-by-hop 1, end-to-end 1`
unfoldable pub identifiers : Header → List ℕ
identifiers h = codes ", hop-by-hop " ++ decimal h.hop_by_hop ++ codes ", end-to-end " ++ decimal h.end_to_end

-- a header's fields behind its command
unfoldable pub fields_text : ℕ → Header → List ℕ
fields_text version h = front_fields version h ++ application_text h ++ identifiers h

-- octets that are no whole header
unfoldable pub short_text : List ℕ → List ℕ
short_text octets = codes "no whole header " ++ octets_text octets

-- a whole header: command, flags, and each field, and the session behind them
unfoldable pub whole_text : List ℕ → List ℕ
whole_text octets =
    command_line octets ++ fields_text (slice_index octets 0) (header_in octets)
    ++ session_text (session_in (drop 20 octets))

-- a message's header (RFC 6733 section 3), or its octets where they are no whole header
abbrev pub header_text : List ℕ → List ℕ
header_text octets = if nat_lt (length octets) 20 then short_text octets else whole_text octets

-- the first line of a message
unfoldable pub message_line : Option ℕ → ℕ → ℕ → List ℕ → List ℕ
message_line line number offset octets = numbered line number offset ++ header_text octets ++ codes "\n"
