-- What two messages mean, AVP by AVP: a CER and a CCR.
use Rattle.std.proofs.Common.{◌≡◌, ◌<◌, ◌+◌, ℕ, zero, suc, List, [], ◌∷◌, ◌++◌, Bool, true, false, Some, None, refl}
use Rattle.std.proofs.Common.{◌∙◌, ap, arith}
use Rattle.std.specs.Prelude.{nat_lt, slice_get, slice_index, Result, codes, drop}
use Rattle.std.specs.List.{list_all}
use Rattle.std.specs.Str.{is_utf8}
use Rattle.std.proofs.lemmas.Bool.{ltb-true}
use Rattle.std.proofs.lemmas.Str.{IsUtf8-from_ascii, is_utf8-from_IsUtf8}
use Rattle.base_codes.specs.CommandCodes.{coded as coded_command}
use Rattle.base_text.specs.Numbers.{number_of}
use Rattle.dia_avp.specs.declared.avp.Avp.{Avp}
use Rattle.dia_avp.specs.Reading.{avp_at, avps_in, item_at, parted, vendor_at}
use Rattle.dia_command.specs.Header.{header_in}
use Rattle.dia_command.specs.Value.{type_coded, action_coded}
use Rattle.dia_dict.specs.declared.definition.AvpKind.TheVariants.{Utf8String}
use Rattle.dia_dict.specs.declared.definition.Definition.{Definition}
use Rattle.dia_dict.specs.Dictionary.{known}
use Rattle.dia_msg.specs.Faults.{format_read, header_faults, instances, is_event, missing_faults, services_faults}
use Rattle.dia_msg.specs.Walk.{faults, faults_by, groups_in}
use Rattle.dia_command.specs.declared.command.Command.{Command}
use Rattle.dia_tree.specs.Canonical.{canonical}
use Rattle.dia_command.specs.Forms.{command_of}
use Rattle.msg_meaning.specs.Meaning.{answer_by, command_in, meaning}
use Rattle.dia_tree.specs.declared.fault.MsgFault.{MsgFault}
use Rattle.dia_tree.specs.Faults.{group_faults, list_faults, own_faults, place_faults, typed_faults}
use Rattle.bench_item.specs.declared.hears.Heard.{Heard}
use Rattle.bench_item.specs.declared.hears.Turn.{Turn}
use Rattle.bench_item.specs.declared.opening.Opening.TheVariants.{Accepted}
use Rattle.bench_line.specs.Messages.{cut_by, messages}
use Rattle.bench_line.specs.Talk.{at_first, turns, turns_by}
use Rattle.line_message.specs.Heard.{accepted, heard, heard_by, message, shares, wins}
use Rattle.line_message.specs.Posts.{at_line, event_for, of_message}
use Rattle.octet_log.specs.Log.{asks, ccr, cer, greets, settings}
use Rattle.bench_spec.specs.Rules.{listening, meaning_of}
use Rattle.bench_spec.proofs.RunLemmas.{both_true}

-- ASCII is UTF-8
below_128 : (octets : List ℕ) (i : ℕ) → list_all (λ octet. nat_lt octet 128) octets ≡ true → slice_index octets i < 128
below_128 [] i all = omega arith
below_128 (o ∷ octets) zero all =
    ltb-true o 128 (both_true (nat_lt o 128) (list_all (λ octet. nat_lt octet 128) octets) all).0
below_128 (o ∷ octets) (suc i) all =
    below_128 octets i (both_true (nat_lt o 128) (list_all (λ octet. nat_lt octet 128) octets) all).1

ascii_is_utf8 : (octets : List ℕ) → list_all (λ octet. nat_lt octet 128) octets ≡ true → is_utf8 octets ≡ true
ascii_is_utf8 octets all = is_utf8-from_IsUtf8 octets (IsUtf8-from_ascii octets (λ i. below_128 octets i all))

-- a text without a fault
text_faults : (inside : List ℕ → List MsgFault) (event : Bool) (a : Avp)
    → list_all (λ octet. nat_lt octet 128) a.octets ≡ true → own_faults event a ≡ []
    → typed_faults inside Utf8String event a ≡ []
text_faults inside event a ascii none = rw (ascii_is_utf8 a.octets ascii) none

-- a list of AVPs without a fault, one after the other
abbrev EachRight : (List ℕ → List MsgFault) → List Definition → Bool → ℕ → List Avp → Type 0
EachRight inside definitions event before [] = Unit {0}
EachRight inside definitions event before (a ∷ list) =
    (place_faults inside definitions event before a ≡ []) × EachRight inside definitions event (before + 1) list

no_faults : (inside : List ℕ → List MsgFault) (definitions : List Definition) (event : Bool) (before : ℕ)
    (list : List Avp) → EachRight inside definitions event before list
    → list_faults inside definitions event before list ≡ []
no_faults inside definitions event before [] right = refl
no_faults inside definitions event before (a ∷ list) right =
    rw (right.0, no_faults inside definitions event (before + 1) list right.1) refl

abbrev avp : ℕ → Bool → List ℕ → Avp
avp code mandatory octets =
    record { code = code; vendor = None; mandatory = mandatory; protected = false; octets = octets }

abbrev product : Avp
product = avp 269 false (120 ∷ [])

abbrev cer_avps : List Avp
cer_avps =
    avp 264 true (codes "c.example") ∷ avp 296 true (codes "example") ∷ avp 257 true (0 ∷ 1 ∷ 127 ∷ 0 ∷ 0 ∷ 1 ∷ [])
    ∷ avp 266 true (0 ∷ 0 ∷ 0 ∷ 0 ∷ []) ∷ product
    ∷ avp 258 true (0 ∷ 0 ∷ 0 ∷ 4 ∷ [])
    ∷ []

cer_read : avps_in (drop 20 cer) ≡ (cer_avps, [])
unfolding avps_in avp_at item_at parted vendor_at
cer_read = refl

-- the faults of a message's octets, those of its list aside, are none
abbrev at_level : ℕ → List ℕ → List MsgFault
at_level room = group_faults (known []) false room

faults_of_list : (room : ℕ) (octets : List ℕ) (list : List Avp) → avps_in octets ≡ (list, [])
    → EachRight (at_level room) (known []) false 0 list → at_level (suc room) octets ≡ []
unfolding group_faults
faults_of_list room octets list read right = rw (read, no_faults (at_level room) (known []) false 0 list right) refl

cer_level : at_level 5 (drop 20 cer) ≡ []
cer_level =
    faults_of_list 4 (drop 20 cer) cer_avps cer_read
    (refl, (refl, (refl, (refl, (text_faults (at_level 4) false product refl refl, (refl, tt))))))

abbrev later_of : List ℕ → List Avp → List MsgFault
later_of octets list =
    missing_faults (known []) (format_read (header_in octets) list) list
    ++ services_faults (is_event (header_in octets) list) (groups_in (instances (header_in octets) list))

cer_faults : faults (known []) cer ≡ []
cer_faults =
    ap (λ (r : List Avp × List ℕ). faults_by (known []) cer r.0) cer_read
    ∙ ap (λ (fs : List MsgFault). header_faults cer ++ (fs ++ later_of cer cer_avps)) cer_level

-- the command that the AVPs are
cer_command : meaning [] cer ≡ answer_by None (command_in (known []) cer)
unfolding meaning
cer_command = ap (λ (fs : List MsgFault). answer_by (slice_get fs 0) (command_in (known []) cer)) cer_faults

-- the same of the CCR, whose AVPs have one group within
abbrev session_id : Avp
session_id = avp 263 true (codes "c1;1")

abbrev context : Avp
context = avp 461 true (120 ∷ 64 ∷ 121 ∷ [])

abbrev account : List ℕ
account = 0 ∷ 0 ∷ 1 ∷ 194 ∷ 64 ∷ 0 ∷ 0 ∷ 12 ∷ 0 ∷ 0 ∷ 0 ∷ 0 ∷ 0 ∷ 0 ∷ 1 ∷ 188 ∷ 64 ∷ 0 ∷ 0 ∷ 11 ∷ 49 ∷ 48 ∷ 48 ∷ 0 ∷ []

abbrev account_data : Avp
account_data = avp 444 true (49 ∷ 48 ∷ 48 ∷ [])

abbrev account_avps : List Avp
account_avps = avp 450 true (0 ∷ 0 ∷ 0 ∷ 0 ∷ []) ∷ account_data ∷ []

abbrev ccr_avps : List Avp
ccr_avps =
    session_id ∷ avp 264 true (codes "c.example") ∷ avp 296 true (codes "example") ∷ avp 283 true (codes "example")
    ∷ avp 258 true (0 ∷ 0 ∷ 0 ∷ 4 ∷ []) ∷ context ∷ avp 416 true (0 ∷ 0 ∷ 0 ∷ 1 ∷ [])
    ∷ avp 415 true (0 ∷ 0 ∷ 0 ∷ 0 ∷ [])
    ∷ avp 443 true account
    ∷ avp 437 true (0 ∷ 0 ∷ 1 ∷ 161 ∷ 64 ∷ 0 ∷ 0 ∷ 16 ∷ 0 ∷ 0 ∷ 0 ∷ 0 ∷ 0 ∷ 0 ∷ 0 ∷ 60 ∷ [])
    ∷ []

ccr_read : avps_in (drop 20 ccr) ≡ (ccr_avps, [])
unfolding avps_in avp_at item_at parted vendor_at
ccr_read = refl

account_read : avps_in account ≡ (account_avps, [])
unfolding avps_in avp_at item_at parted vendor_at
account_read = refl

account_level : at_level 4 account ≡ []
account_level =
    faults_of_list 3 account account_avps account_read
    (refl, (text_faults (at_level 3) false account_data refl refl, tt))

ccr_level : at_level 5 (drop 20 ccr) ≡ []
unfolding group_faults avps_in avp_at item_at parted vendor_at
ccr_level =
    faults_of_list 4 (drop 20 ccr) ccr_avps ccr_read (
      text_faults (at_level 4) false session_id refl refl,
      (
        refl,
        (
          refl,
          (
            refl,
            (refl, (text_faults (at_level 4) false context refl refl, (refl, (refl, (account_level, (refl, tt)))))),
          ),
        ),
      ),
    )

ccr_later : later_of ccr ccr_avps ≡ []
unfolding avps_in avp_at item_at parted vendor_at
ccr_later = refl

ccr_faults : faults (known []) ccr ≡ []
ccr_faults =
    ap (λ (r : List Avp × List ℕ). faults_by (known []) ccr r.0) ccr_read
    ∙ ap (λ (fs : List MsgFault). header_faults ccr ++ (fs ++ later_of ccr ccr_avps)) ccr_level
    ∙ ccr_later

ccr_command : meaning [] ccr ≡ answer_by None (command_in (known []) ccr)
unfolding meaning
ccr_command = ap (λ (fs : List MsgFault). answer_by (slice_get fs 0) (command_in (known []) ccr)) ccr_faults

-- what the connection makes of them
abbrev made_of_cer : Result Command MsgFault → Turn
made_of_cer m = heard_by (listening settings) (at_first 1 Accepted) cer m None Accepted

abbrev at_second : Heard
at_second = record { line = 1; opening = Accepted; greeted = Some 0 }

abbrev made_of_ccr : Result Command MsgFault → Turn
made_of_ccr m = heard_by (listening settings) at_second ccr m (Some 0) Accepted

cer_made : made_of_cer (answer_by None (command_in (known []) cer)) ≡ greets
unfolding command_of avps_in avp_at item_at parted vendor_at type_coded action_coded coded_command canonical accepted
    shares wins event_for at_line of_message
cer_made = refl

cer_turn : heard (listening settings) (at_first 1 Accepted) cer ≡ greets
unfolding heard
cer_turn = ap made_of_cer cer_command ∙ cer_made

ccr_made : made_of_ccr (answer_by None (command_in (known []) ccr)) ≡ asks
unfolding command_of avps_in avp_at item_at parted vendor_at type_coded action_coded coded_command canonical message
    event_for at_line of_message number_of
ccr_made = refl

ccr_turn : heard (listening settings) at_second ccr ≡ asks
unfolding heard
ccr_turn = ap made_of_ccr ccr_command ∙ ccr_made

-- what it makes of the piece
two_messages : messages (cer ++ ccr) ≡ cer ∷ ccr ∷ []
unfolding messages cut_by
two_messages = refl

pub both_turns : turns (meaning_of settings) 1 Accepted (cer ++ ccr) ≡ greets ∷ asks ∷ []
unfolding turns
both_turns =
    ap (turns_by (heard (listening settings)) (at_first 1 Accepted)) two_messages
    ∙ by_turns (heard (listening settings)) cer_turn ccr_turn
  where
    by_turns : (hear : Heard → List ℕ → Turn) → hear (at_first 1 Accepted) cer ≡ greets → hear at_second ccr ≡ asks
        → turns_by hear (at_first 1 Accepted) (cer ∷ ccr ∷ []) ≡ greets ∷ asks ∷ []
    by_turns hear first second = rw (first, second) refl
