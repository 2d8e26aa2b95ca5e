-- The faults of AVPs with all that their groups hold, in order of place: `HasMessageFaults` says them of a message's
-- octets. The functions above it are what reading code is proved against.
use Rattle.std.specs.Prelude.{◌≡◌, ℕ, zero, suc, ◌+◌, Bool, true, false, ◌==◌, ◌&&◌, ◌||◌, nat_lt, nat_le, is_none}
use Rattle.std.specs.Prelude.{if◌then◌else◌, List, [], ◌∷◌, ◌++◌, length, find, slice_index, drop, replicate}
use Rattle.std.specs.Prelude.{Option, None, Some}
use Rattle.std.specs.Option.{option_map_or}
use Rattle.byteorder.specs.Endian.{big_number}
use Rattle.dia_avp.specs.declared.avp.Avp.{Avp}
use Rattle.dia_avp.specs.Avps.{has_flag, vendor_of, AvpsThen, IsLeftOver}
use Rattle.dia_avp.specs.Look.{is_coded}
use Rattle.dia_avp.specs.Reading.{avps_in}
use Rattle.dia_dict.specs.declared.definition.AvpKind.{AvpKind}
use Rattle.dia_dict.specs.declared.definition.Definition.{Definition}
use Rattle.dia_dict.specs.declared.fault.DictFault.{DictFault}
use Rattle.dia_dict.specs.declared.fault.DictFault.TheVariants.{Unknown, UnknownMandatory, BadValue, BadLength}
use Rattle.dia_dict.specs.Kind.{least_size, data_fault}
use Rattle.dia_dict.specs.Dictionary.{definition_of}
use Rattle.dia_tree.specs.Kind.{is_group, is_grouped}
use Rattle.dia_tree.specs.declared.fault.MsgFault.{MsgFault}
use Rattle.base_codes.specs.declared.result_code.ResultCode.{ResultCode}
use Rattle.base_codes.specs.declared.result_code.ResultCode.TheVariants.{AvpUnsupported, InvalidAvpValue, MissingAvp}
use Rattle.base_codes.specs.declared.result_code.ResultCode.TheVariants.{UnableToComply, InvalidAvpLength}

-- a fault of a code, with its failed AVP
abbrev pub fault : ResultCode → Option Avp → MsgFault
fault code failed = record { result = code; failed = failed }

-- an AVP with so many zeros as its data
abbrev pub zeros : ℕ → Avp → Avp
zeros size a = record a { octets = replicate size 0 }

-- the fewest octets that the data of a defined AVP has, none where there is no definition
abbrev pub least_of : Option Definition → ℕ
least_of definition = option_map_or (λ d. least_size d.kind) definition 0

-- an AVP's header with zeros of the least size of its type, none where the type is unknown (RFC 6733 section 7.5)
abbrev pub zeroed : List Definition → Avp → Avp
zeroed definitions a = zeros (least_of (definition_of definitions a.code a.vendor)) a

-- the header of an AVP that is broken, without data; octets that are missing count as zero
abbrev pub cut_avp : List ℕ → Avp
cut_avp octets = record {
  code = big_number 4 octets;
  vendor = if has_flag 128 (slice_index octets 4) then vendor_of (big_number 4 (drop 8 octets)) else None;
  mandatory = has_flag 64 (slice_index octets 4);
  protected = has_flag 32 (slice_index octets 4);
  octets = [];
}

-- the fault of an AVP whose length is broken
abbrev pub broken_fault : List Definition → List ℕ → MsgFault
broken_fault definitions octets = fault InvalidAvpLength (Some (zeroed definitions (cut_avp octets)))

-- the fault of what is left after the whole AVPs: nothing, or an AVP whose length is broken
abbrev pub left_faults : List Definition → List ℕ → List MsgFault
left_faults definitions [] = []
left_faults definitions (octet ∷ left) = broken_fault definitions (octet ∷ left) ∷ []

-- the fault of an AVP that is missing: it is to have flag M
abbrev pub missing_fault : List Definition → ℕ → MsgFault
missing_fault definitions code =
    let header : Avp = record { code = code; vendor = None; mandatory = true; protected = false; octets = [] } in
    fault MissingAvp (Some (zeroed definitions header))

-- whether the value of an AVP without vendor is none that credit control knows: a Session-Id has 1 to 255 octets; a
-- CC-Request-Type is 1 to 4, and in an EVENT request a Requested-Action 0 to 3 (RFC 8506 sections 8.3 and 8.41)
abbrev pub is_bad_value : Bool → ℕ → List ℕ → Bool
is_bad_value event code octets =
    if code == 263 then (length octets == 0) || nat_lt 255 (length octets)
    else if code == 416 then (big_number 4 octets == 0) || nat_lt 4 (big_number 4 octets)
    else (code == 436) && (event && nat_lt 3 (big_number 4 octets))

-- the fault of a value that credit control does not know
abbrev pub own_faults : Bool → Avp → List MsgFault
own_faults event a =
    if is_none a.vendor && is_bad_value event a.code a.octets then fault InvalidAvpValue (Some a) ∷ [] else []

-- what a fault of the data means for the message; where the type has none, the value counts
abbrev pub data_faults : Option DictFault → ℕ → Bool → Avp → List MsgFault
data_faults None least event a = own_faults event a
data_faults (Some Unknown) least event a = []
data_faults (Some UnknownMandatory) least event a = fault AvpUnsupported (Some a) ∷ []
data_faults (Some BadValue) least event a = fault InvalidAvpValue (Some a) ∷ []
data_faults (Some BadLength) least event a = fault InvalidAvpLength (Some (zeros least a)) ∷ []

-- the faults of an AVP by its type: those inside a group, or that of its data
abbrev pub typed_faults : (inside : List ℕ → List MsgFault) → AvpKind → Bool → Avp → List MsgFault
typed_faults inside kind event a =
    if is_group kind then inside a.octets else data_faults (data_fault kind a.octets) (least_size kind) event a

-- the fault of an AVP that is unknown and has flag M
abbrev pub unknown_faults : Avp → List MsgFault
unknown_faults a = if a.mandatory then fault AvpUnsupported (Some a) ∷ [] else []

-- the faults of an AVP by the definition that it has
abbrev pub faults_by : (inside : List ℕ → List MsgFault) → Option Definition → Bool → Avp → List MsgFault
faults_by inside None event a = unknown_faults a
faults_by inside (Some d) event a = typed_faults inside d.kind event a

-- the faults of an AVP
abbrev pub avp_faults : (inside : List ℕ → List MsgFault) → List Definition → Bool → Avp → List MsgFault
avp_faults inside definitions event a = faults_by inside (definition_of definitions a.code a.vendor) event a

-- the faults of an AVP with so many before it in its list, which has at most 128
abbrev pub place_faults : (inside : List ℕ → List MsgFault) → List Definition → Bool → ℕ → Avp → List MsgFault
place_faults inside definitions event before a =
    if nat_le 128 before then fault UnableToComply None ∷ [] else avp_faults inside definitions event a

-- the faults of a list of AVPs at one level, in order of place, those inside a group at the group's place
abbrev pub list_faults : (inside : List ℕ → List MsgFault) → List Definition → Bool → ℕ → List Avp → List MsgFault
list_faults inside definitions event before [] = []
list_faults inside definitions event before (a ∷ list) =
    place_faults inside definitions event before a ++ list_faults inside definitions event (before + 1) list

-- the faults of octets that are AVPs, with so many levels open to them; 0 where they stand in one group too many
unfoldable pub group_faults : List Definition → Bool → ℕ → List ℕ → List MsgFault
group_faults definitions event zero octets = fault UnableToComply None ∷ []
group_faults definitions event (suc room) octets =
    list_faults (group_faults definitions event room) definitions event 0 (avps_in octets).0
    ++ left_faults definitions (avps_in octets).1

-- the faults of AVPs at one level, in order of place, where so many stand before them; `Inside` is what faults the
-- octets of a group have
abbrev pub AreFaults : (Inside : List ℕ → List MsgFault → Type 0)
    → List Definition → Bool → ℕ → List Avp → List MsgFault → Type 0
AreFaults Inside definitions event before [] faults = faults ≡ []
AreFaults Inside definitions event before (a ∷ list) faults =
    (inner : List MsgFault) × (later : List MsgFault)
    × (is_grouped (definition_of definitions a.code a.vendor) ≡ true → Inside a.octets inner)
    × AreFaults Inside definitions event (before + 1) list later
    × (faults ≡ place_faults (λ _. inner) definitions event before a ++ later)

-- the faults of octets with so many levels open to them: those of their whole AVPs, those inside a group at the
-- group's place, and of what is left; octets in one group too many have that fault alone
unfoldable pub HasFaults : List Definition → Bool → ℕ → List ℕ → List MsgFault → Type 0
HasFaults definitions event zero octets faults = faults ≡ fault UnableToComply None ∷ []
HasFaults definitions event (suc room) octets faults =
    (list : List Avp) × (left : List ℕ) × (own : List MsgFault)
    × AvpsThen octets list left × IsLeftOver left
    × AreFaults (HasFaults definitions event room) definitions event 0 list own
    × (faults ≡ own ++ left_faults definitions left)

-- whether the first CC-Request-Type among a message's AVPs is EVENT_REQUEST (RFC 8506 section 8.3)
abbrev pub has_event_type : List Avp → Bool
has_event_type list =
    option_map_or (λ a. (length a.octets == 4) && (big_number 4 a.octets == 4)) (find (is_coded 416) list) false

-- whether a message is an EVENT request; `credit` says whether it is a Credit-Control-Request, its AVPs are octets
abbrev pub IsEvent : Bool → List ℕ → Bool → Type 0
IsEvent credit octets event =
    (list : List Avp) × (left : List ℕ)
    × AvpsThen octets list left × IsLeftOver left × (event ≡ (credit && has_event_type list))

-- the faults of a message's AVPs: five levels are open to them, their own and four levels of groups
abbrev pub HasMessageFaults : List Definition → Bool → List ℕ → List MsgFault → Type 0
HasMessageFaults definitions credit octets faults =
    (event : Bool) × IsEvent credit octets event × HasFaults definitions event 5 octets faults

-- an AVP that has no fault, with so many levels open to what it holds
abbrev pub IsGood : List Definition → Bool → ℕ → Avp → Type 0
IsGood definitions event room a = avp_faults (group_faults definitions event room) definitions event a ≡ []
