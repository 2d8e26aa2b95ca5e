-- The encoding of a command that was read is read as that command.
use Rattle.std.proofs.Common.{◌≡◌, ◌==◌, ◌&&◌, ◌||◌, ℕ, ◌+◌, ◌-◌, ◌/◌, ◌<◌, ◌≤◌, ◌^◌, Bool, true, false, cond, not, List, [], ◌∷◌, ◌++◌, length, drop, map, filter, get_or, Option, None, Some, Result, Ok, Err, All, refl, sym, ap, subst, ◌∙◌, arith, inl}
use Rattle.std.specs.Prelude.{slice_index, slice_get, IfOk, sum_by, find}
use Rattle.std.specs.List.{flat_map}
use Rattle.std.specs.Option.{option_map, option_map_or, option_and_then}
use Rattle.std.proofs.lemmas.List.{length-append, length-drop, length-map, map-append}
use Rattle.std.proofs.lemmas.List.Concat.{length-flat_map}
use Rattle.std.proofs.lemmas.List.Elements.{All-nil, All-cons, All-head, All-tail, All-filter, filter_passes}
use Rattle.std.proofs.lemmas.List.Sums.{sum_by-cons}
use Rattle.byteorder.specs.Numbers.{big_number-reads_back}
use Rattle.byteorder.specs.Endian.{big_number}
use Rattle.dia_avp.specs.declared.avp.Avp.{Avp}
use Rattle.dia_avp.specs.Reading.{avps_in}
use Rattle.dia_avp.specs.Encoding.{length_of, encoded, encoding}
use Rattle.dia_avp.specs.Writing.{HasNumbers}
use Rattle.dia_avp.specs.Look.{is_coded, number_in, first_number}
use Rattle.dia_avp.proofs.Bytes.{IsBytes, IsBytes-drop, big_number_4-lt, big_number_3-lt}
use Rattle.dia_avp.proofs.PartLaws.{IsShort, HasBytes, avps_in-only, avps_in-numbers, avps_in-not_zero, avps_in-bytes, avps_in-short, avps_in-encoding, avps_in-room, encoding-bytes}
use Rattle.dia_avp.proofs.Encoded.{length_encoded}
use Rattle.dia_dict.specs.declared.definition.Definition.{Definition}
use Rattle.dia_dict.specs.Dictionary.{known, definition_of}
use Rattle.dia_tree.specs.Kind.{is_grouped}
use Rattle.dia_tree.specs.declared.fault.MsgFault.{MsgFault}
use Rattle.dia_tree.specs.Faults.{group_faults, missing_fault, IsGood}
use Rattle.dia_tree.specs.Canonical.{canonical, IsCanonical, AreCanonical, AreEach}
use Rattle.dia_tree.proofs.CanonicalRelation.{IsCanonical-takes, IsCanonical-again, AreCanonical-takes, AreCanonical-again}
use Rattle.dia_tree.proofs.RelationLaws.{all_are}
use Rattle.dia_tree.proofs.FaultLaws.{none_both, each_good, few, good_octets}
use Rattle.dia_tree.proofs.CanonicalLaws.{canonical_head, canonical-plain, canonical-group, canonical_inner, canonical_bytes, canonicals_good, canonicals_numbers, canonicals_not_zero, canonicals_bytes, canonicals_room, canonicals_again}
use Rattle.dia_command.specs.declared.command.Command.{Command}
use Rattle.dia_command.specs.declared.command.Command.TheVariants.{Cer, Cea, Dwr, Dwa, Dpr, Dpa, Rar, Raa, Ccr, Cca, ErrorAnswer}
use Rattle.dia_command.specs.declared.header.Flags.{Flags}
use Rattle.dia_command.specs.declared.header.Header.{Header}
use Rattle.dia_command.specs.declared.kind.CommandKind.{CommandKind}
use Rattle.dia_command.specs.declared.kind.CommandKind.TheVariants as kinds
use Rattle.dia_command.specs.declared.format.AvpFormat.{AvpFormat}
use Rattle.dia_command.specs.declared.typed.TypedAvp.{TypedAvp}
use Rattle.dia_command.specs.Header.{header_in, header_octets, flags_in, flags_octet}
use Rattle.dia_command.specs.Format.{kind_coded, application_of, format_of}
use Rattle.dia_command.specs.Field.{Field, Octets, Numbers, Types, Actions, Groups, avps_by, IsGroup, IsTypedOf, AreTypedOf, IsFieldOf}
use Rattle.dia_command.specs.Command.{kind_of, header_of, fields, rest_of, avps_of, with_length}
use Rattle.dia_write.specs.Encoding.{message_len, encode}
use Rattle.dia_command.specs.Laws.{IsRead, has_groups, IsReadOf, AreReadOf}
use Rattle.dia_command.proofs.AgainLaws.{written_again}
use Rattle.dia_write.proofs.WriteLemmas.{length-encode, encode-whole}
use Rattle.dia_msg.specs.declared.fault.MsgError.{MsgError}
use Rattle.dia_msg.specs.Taken.{is_for, taken, groups, untaken, missing}
use Rattle.dia_msg.specs.Faults.{header_faults, kind_in, is_credit, is_event, has_failed, is_complete, read_as, kind_read, format_read, has_services, instances, services_faults, HasFaults}
use Rattle.dia_msg.specs.Reading.{AreFields, Means, IsReading, IsReadAgain, UnlessNoMemory}
use Rattle.dia_msg.specs.Walk.{whole_avps, groups_in, later_faults, faults}
use Rattle.dia_msg.proofs.FaultlessLaws.{SoundHeader, sound_header, SoundLength, sound_length, length-good, header-faultless}
use Rattle.dia_msg.proofs.SpreadLemmas.{spread, spread-is, spread-All, spread-sum, coded-spread, taken-spread, untaken-spread, untaken-All, took-All, took-Passes}
use Rattle.dia_msg.proofs.MapLemmas.{KeepsHeads, filter-each, filter-same, taken-each, untaken-each, missing-same, missing-each}
use Rattle.dia_msg.proofs.KindLemmas.{distinct}
use Rattle.dia_msg.proofs.SourceLemmas.{coded_code, coded_vendor, coded_definition}
use Rattle.dia_msg.proofs.RelationLaws.{HasFaults-takes, HasFaults-again}
use Rattle.dia_msg.proofs.ReadingLaws.{format_known, AreEach-takes, AreEach-again}

-- the flags that were written are read
flags_again : (r p e t : Bool) → let f : Flags = record { request = r; proxiable = p; error = e; retransmitted = t } in flags_in (flags_octet f) ≡ f
flags_again true true true true = refl
flags_again true true true false = refl
flags_again true true false true = refl
flags_again true true false false = refl
flags_again true false true true = refl
flags_again true false true false = refl
flags_again true false false true = refl
flags_again true false false false = refl
flags_again false true true true = refl
flags_again false true true false = refl
flags_again false true false true = refl
flags_again false true false false = refl
flags_again false false true true = refl
flags_again false false true false = refl
flags_again false false false true = refl
flags_again false false false false = refl

-- the numbers that a header can hold
pub record HasFields (h : Header) : Type 0 where
  pub command : h.command < 2 ^ 24
  pub application : h.application < 2 ^ 32
  pub hop_by_hop : h.hop_by_hop < 2 ^ 32
  pub end_to_end : h.end_to_end < 2 ^ 32

header_made : ℕ → Flags → ℕ → ℕ → ℕ → ℕ → Header
header_made l f c a p e = record { length = l; flags = f; command = c; application = a; hop_by_hop = p; end_to_end = e }

same_header : (l m : ℕ) (f g : Flags) (c d a b p q e t : ℕ) → l ≡ m → f ≡ g → c ≡ d → a ≡ b → p ≡ q → e ≡ t → header_made l f c a p e ≡ header_made m g d b q t
same_header l m f g c d a b p q e t i j k o u v = rw (i, j, k, o, u, v) refl

-- the header that was written is read
pub header_again : (h : Header) (n : ℕ) (s : List ℕ) → HasFields h → n < 2 ^ 24 → header_in (header_octets h n ++ s) ≡ record h { length = n }
unfolding header_made
header_again h n s fits short =
    let x = header_octets h n ++ s in
    same_header _ n _ h.flags _ h.command _ h.application _ h.hop_by_hop _ h.end_to_end
    (big_number-reads_back 3 n (drop 4 x) short)
    (flags_again h.flags.request h.flags.proxiable h.flags.error h.flags.retransmitted)
    (big_number-reads_back 3 h.command (drop 8 x) fits.command)
    (big_number-reads_back 4 h.application (drop 12 x) fits.application)
    (big_number-reads_back 4 h.hop_by_hop (drop 16 x) fits.hop_by_hop)
    (big_number-reads_back 4 h.end_to_end (drop 20 x) fits.end_to_end)

-- a header that was read holds numbers of its size
pub HasFields-header_in : (octets : List ℕ) → IsBytes octets → HasFields (header_in octets)
HasFields-header_in octets fits = record {
  command = big_number_3-lt (drop 5 octets) (IsBytes-drop 5 octets fits);
  application = big_number_4-lt (drop 8 octets) (IsBytes-drop 8 octets fits);
  hop_by_hop = big_number_4-lt (drop 12 octets) (IsBytes-drop 12 octets fits);
  end_to_end = big_number_4-lt (drop 16 octets) (IsBytes-drop 16 octets fits);
}

-- no AVP of a list is longer than the list's encoding
short_each : (list : List Avp) (n : ℕ) → length (encoding list) < n → All (λ a. length_of a < n) list
short_each [] n short = All-nil (λ a. length_of a < n)
short_each (a ∷ list) n short =
    let all : length (encoding (a ∷ list)) ≡ length (encoded a) + length (encoding list) = length-append (encoded a) (encoding list) in
    All-cons (λ x. length_of x < n) a list (omega (arith, length_encoded a)) (short_each list n (omega arith))

encode-body : (c : Command) → drop 20 (encode c) ≡ encoding (avps_of c)
unfolding encode
encode-body c = refl

encode-header : (c : Command) → HasFields (header_of c) → message_len c < 2 ^ 24 → header_in (encode c) ≡ record (header_of c) { length = message_len c }
unfolding encode
encode-header c fits short = header_again (header_of c) (message_len c) (encoding (avps_of c)) fits short

encode-version : (c : Command) → slice_index (encode c) 0 ≡ 1
unfolding encode
encode-version c = refl

-- the canonical encoding keeps code and vendor
canonical_keeps : (d : List Definition) (n : ℕ) → KeepsHeads (canonical d n)
canonical_keeps d n a code =
    let h = canonical_head d n a in
    rw (h.code, h.vendor) refl

abbrev IsPlain : List Definition → ℕ → Type 0
IsPlain d code = is_grouped (definition_of d code None) ≡ false

plain_stays : (d : List Definition) (n code : ℕ) (a : Avp) → IsPlain d code → is_coded code a ≡ true → canonical d n a ≡ a
plain_stays d n code a plain e = canonical-plain d n a (ap is_grouped (coded_definition d code a e) ∙ plain)

found-head : (p : Avp → Bool) (a : Avp) (list : List Avp) (b : Bool) → p a ≡ b → find p list ≡ slice_get (filter p list) 0 → find p (a ∷ list) ≡ slice_get (filter p (a ∷ list)) 0
found-head p a list true e next = rw e refl
found-head p a list false e next = rw e next

found : (p : Avp → Bool) (list : List Avp) → find p list ≡ slice_get (filter p list) 0
found p [] = refl
found p (a ∷ list) = found-head p a list (p a) refl (found p list)

-- the first of a code that is no group's stays
found_plain : (d : List Definition) (n code : ℕ) (list : List Avp) → IsPlain d code → find (is_coded code) (map (canonical d n) list) ≡ find (is_coded code) list
found_plain d n code list plain =
    found (is_coded code) (map (canonical d n) list)
    ∙ ap (λ (l : List Avp). slice_get l 0) (filter-same (canonical d n) (is_coded code) list (λ a. canonical_keeps d n a code) (λ a e. plain_stays d n code a plain e))
    ∙ sym (found (is_coded code) list)

-- AVPs as they are written, in the order of a format
abbrev written : List Definition → List AvpFormat → List Avp → List Avp
written d formats list = map (canonical d 4) (spread formats list)

found_stays : (d : List Definition) (formats : List AvpFormat) (list : List Avp) (code : ℕ) → IsPlain d code → find (is_coded code) (written d formats list) ≡ find (is_coded code) list
found_stays d formats list code plain =
    found_plain d 4 code (spread formats list) plain
    ∙ found (is_coded code) (spread formats list)
    ∙ ap (λ (l : List Avp). slice_get l 0) (coded-spread code formats list)
    ∙ sym (found (is_coded code) list)

abbrev number_from : Option Avp → Option ℕ
number_from o = option_and_then (λ a. number_in 4 a.octets) o

abbrev event_from : Option Avp → Bool
event_from o = option_map_or (λ a. (length a.octets == 4) && (big_number 4 a.octets == 4)) o false

missing_stays : (d : List Definition) (others formats : List AvpFormat) (list : List Avp) → missing others (written d formats list) ≡ missing others list
missing_stays d others formats list =
    missing-each (canonical d 4) others (spread formats list) (canonical_keeps d 4) ∙ missing-same others (spread formats list) list (λ f. ap length (taken-spread f formats list))

abbrev failed_from : Option ℕ → Bool
failed_from o = option_map_or (λ n. not (n / 1000 == 2)) o false

abbrev as_read : Bool → Bool → Flags → CommandKind → CommandKind
as_read failed complete flags kind = cond flags.request kind (cond (flags.error || (failed && not complete)) kinds.ErrorAnswer kind)

read_stays : (x : List Definition) (formats : List AvpFormat) (list : List Avp) (flags : Flags) (kind : CommandKind) → read_as kind flags (written (known x) formats list) ≡ read_as kind flags list
read_stays x formats list flags kind =
    let w = written (known x) formats list in
    let failed : has_failed w ≡ has_failed list = ap (λ (o : Option Avp). failed_from (number_from o)) (found_stays (known x) formats list 268 refl) in
    let complete : is_complete kind w ≡ is_complete kind list = ap (λ (fs : List AvpFormat). length fs == 0) (missing_stays (known x) (format_of kind false) formats list) in
    ap (λ (b : Bool). as_read b (is_complete kind w) flags kind) failed ∙ ap (λ (b : Bool). as_read (has_failed list) b flags kind) complete

abbrev some_kind : CommandKind → Option CommandKind
some_kind k = Some k

same_kinds : (o : Option CommandKind) (f g : CommandKind → CommandKind) → ((k : CommandKind) → f k ≡ g k) → option_map f o ≡ option_map g o
same_kinds None f g h = refl
same_kinds (Some k) f g h = ap some_kind (h k)

abbrev with_field : ℕ → Header → Header
with_field n h = record h { length = n }

-- what is said of a message by its header and its AVPs is said of its encoding
kind_stays : (x : List Definition) (formats : List AvpFormat) (list : List Avp) (h : Header) (n : ℕ) → kind_read (with_field n h) (written (known x) formats list) ≡ kind_read h list
kind_stays x formats list h n =
    same_kinds (kind_coded h.command h.flags.request) (λ k. read_as k h.flags (written (known x) formats list)) (λ k. read_as k h.flags list) (λ k. read_stays x formats list h.flags k)

event_stays : (x : List Definition) (formats : List AvpFormat) (list : List Avp) (h : Header) (n : ℕ) → is_event (with_field n h) (written (known x) formats list) ≡ is_event h list
event_stays x formats list h n = ap (λ (o : Option Avp). is_credit h && event_from o) (found_stays (known x) formats list 416 refl)

abbrev format_by : Option CommandKind → Bool → List AvpFormat
format_by o event = option_map_or (λ k. format_of k event) o []

format_stays : (x : List Definition) (formats : List AvpFormat) (list : List Avp) (h : Header) (n : ℕ) → format_read (with_field n h) (written (known x) formats list) ≡ format_read h list
format_stays x formats list h n =
    ap (λ (o : Option CommandKind). format_by o (is_event (with_field n h) (written (known x) formats list))) (kind_stays x formats list h n)
    ∙ ap (λ (b : Bool). format_by (kind_read h list) b) (event_stays x formats list h n)

short_data : (a : Avp) → length_of a < 2 ^ 24 → length a.octets + 8 < 2 ^ 24
unfolding length_of
short_data a h = omega arith

group_data : (x : List Definition) (code : ℕ) (a : Avp) → is_grouped (definition_of (known x) code None) ≡ true → is_coded code a ≡ true → (canonical (known x) 4 a).octets ≡ encoding (map (canonical (known x) 3) (avps_in a.octets).0)
group_data x code a group e = ap (λ (b : Avp). b.octets) (canonical-group (known x) 3 a (ap is_grouped (coded_definition (known x) code a e) ∙ group))

-- the group of an instance stays
group_stays : (x : List Definition) (a : Avp) → is_coded 456 a ≡ true → IsBytes a.octets → length_of a < 2 ^ 24 → first_number 432 (avps_in (canonical (known x) 4 a).octets).0 ≡ first_number 432 (avps_in a.octets).0
group_stays x a e fits short =
    let d = known x in
    let inner = (avps_in a.octets).0 in
    ap (λ (o : List ℕ). first_number 432 (avps_in o).0) (group_data x 456 a refl e)
    ∙ ap (λ (p : List Avp × List ℕ). first_number 432 p.0) (canonical_inner d 3 a.octets fits (short_data a short))
    ∙ ap number_from (found_plain d 3 432 inner refl)

both_groups : (x y : Option ℕ) (xs ys : List (Option ℕ)) → x ≡ y → xs ≡ ys → x ∷ xs ≡ y ∷ ys
both_groups x y xs ys e f = rw (e, f) refl

abbrev IsInstance : Avp → Type 0
IsInstance a = is_coded 456 a ≡ true

groups_stay : (x : List Definition) (list : List Avp) → All IsInstance list → All HasBytes list → All IsShort list → groups_in (map (canonical (known x) 4) list) ≡ groups_in list
groups_stay x [] c b s = refl
groups_stay x (a ∷ list) c b s =
    both_groups _ _ _ _ (group_stays x a (All-head IsInstance a list c) (All-head HasBytes a list b) (All-head IsShort a list s))
    (groups_stay x list (All-tail IsInstance a list c) (All-tail HasBytes a list b) (All-tail IsShort a list s))

abbrev groups_by : Bool → List Avp → List (Option ℕ)
groups_by b list = groups_in (cond b (filter (is_coded 456) list) [])

instances_by : (b : Bool) (x : List Definition) (formats : List AvpFormat) (list : List Avp) → All HasBytes list → All IsShort list → groups_by b (written (known x) formats list) ≡ groups_by b list
instances_by false x formats list b s = refl
instances_by true x formats list b s =
    let f = canonical (known x) 4 in
    let own = filter (is_coded 456) list in
    ap groups_in (filter-each f (is_coded 456) (spread formats list) (λ a. canonical_keeps (known x) 4 a 456) ∙ ap (λ (l : List Avp). map f l) (coded-spread 456 formats list))
    ∙ groups_stay x own (filter_passes (is_coded 456) list) (All-filter (is_coded 456) HasBytes list b) (All-filter (is_coded 456) IsShort list s)

instances_stay : (x : List Definition) (formats : List AvpFormat) (list : List Avp) (h : Header) (n : ℕ) → All HasBytes list → All IsShort list
    → groups_in (instances (with_field n h) (written (known x) formats list)) ≡ groups_in (instances h list)
instances_stay x formats list h n b s =
    ap (λ (o : Option CommandKind). groups_by (option_map_or has_services o false) (written (known x) formats list)) (kind_stays x formats list h n)
    ∙ instances_by (option_map_or has_services (kind_read h list) false) x formats list b s

abbrev later_by : List Definition → List AvpFormat → Bool → List (Option ℕ) → List MsgFault
later_by d gone event gs = map (λ f. missing_fault d f.code) gone ++ services_faults event gs

later_stays : (x : List Definition) (formats : List AvpFormat) (list : List Avp) (h : Header) (n : ℕ) → All HasBytes list → All IsShort list
    → later_faults (known x) (with_field n h) (written (known x) formats list) ≡ later_faults (known x) h list
later_stays x formats list h n b s =
    let d = known x in
    let w = written d formats list in
    let k = with_field n h in
    ap (λ (fs : List AvpFormat). later_by d (missing fs w) (is_event k w) (groups_in (instances k w))) (format_stays x formats list h n)
    ∙ ap (λ (fs : List AvpFormat). later_by d fs (is_event k w) (groups_in (instances k w))) (missing_stays d (format_read h list) formats list)
    ∙ ap (λ (e : Bool). later_by d (missing (format_read h list) list) e (groups_in (instances k w))) (event_stays x formats list h n)
    ∙ ap (λ (g : List (Option ℕ)). later_by d (missing (format_read h list) list) (is_event h list) g) (instances_stay x formats list h n b s)

-- which entries are for groups
group_kinds : (x : List Definition) (c : Command) (e : Bool) → map (λ f. is_grouped (definition_of (known x) f.code None)) (format_of (kind_of c) e) ≡ map has_groups (fields c)
group_kinds x (Cer c) e = refl
group_kinds x (Cea c) e = refl
group_kinds x (Dwr c) e = refl
group_kinds x (Dwa c) e = refl
group_kinds x (Dpr c) e = refl
group_kinds x (Dpa c) e = refl
group_kinds x (Rar c) e = refl
group_kinds x (Raa c) e = refl
group_kinds x (Ccr c) e = refl
group_kinds x (Cca c) e = refl
group_kinds x (ErrorAnswer c) e = refl

same_format : (c : Command) (e : Bool) → avps_by (format_of (kind_of c) false) (fields c) ≡ avps_by (format_of (kind_of c) e) (fields c)
same_format (Cer c) e = refl
same_format (Cea c) e = refl
same_format (Dwr c) e = refl
same_format (Dwa c) e = refl
same_format (Dpr c) e = refl
same_format (Dpa c) e = refl
same_format (Rar c) e = refl
same_format (Raa c) e = refl
same_format (Ccr c) e = refl
same_format (Cca c) e = refl
same_format (ErrorAnswer c) e = refl

-- the length field aside nothing of a command is changed
kind_of-with_length : (n : ℕ) (c : Command) → kind_of (with_length n c) ≡ kind_of c
kind_of-with_length n (Cer c) = refl
kind_of-with_length n (Cea c) = refl
kind_of-with_length n (Dwr c) = refl
kind_of-with_length n (Dwa c) = refl
kind_of-with_length n (Dpr c) = refl
kind_of-with_length n (Dpa c) = refl
kind_of-with_length n (Rar c) = refl
kind_of-with_length n (Raa c) = refl
kind_of-with_length n (Ccr c) = refl
kind_of-with_length n (Cca c) = refl
kind_of-with_length n (ErrorAnswer c) = refl

header_of-with_length : (n : ℕ) (c : Command) → header_of (with_length n c) ≡ with_field n (header_of c)
header_of-with_length n (Cer c) = refl
header_of-with_length n (Cea c) = refl
header_of-with_length n (Dwr c) = refl
header_of-with_length n (Dwa c) = refl
header_of-with_length n (Dpr c) = refl
header_of-with_length n (Dpa c) = refl
header_of-with_length n (Rar c) = refl
header_of-with_length n (Raa c) = refl
header_of-with_length n (Ccr c) = refl
header_of-with_length n (Cca c) = refl
header_of-with_length n (ErrorAnswer c) = refl

fields-with_length : (n : ℕ) (c : Command) → fields (with_length n c) ≡ fields c
fields-with_length n (Cer c) = refl
fields-with_length n (Cea c) = refl
fields-with_length n (Dwr c) = refl
fields-with_length n (Dwa c) = refl
fields-with_length n (Dpr c) = refl
fields-with_length n (Dpa c) = refl
fields-with_length n (Rar c) = refl
fields-with_length n (Raa c) = refl
fields-with_length n (Ccr c) = refl
fields-with_length n (Cca c) = refl
fields-with_length n (ErrorAnswer c) = refl

rest_of-with_length : (n : ℕ) (c : Command) → rest_of (with_length n c) ≡ rest_of c
rest_of-with_length n (Cer c) = refl
rest_of-with_length n (Cea c) = refl
rest_of-with_length n (Dwr c) = refl
rest_of-with_length n (Dwa c) = refl
rest_of-with_length n (Dpr c) = refl
rest_of-with_length n (Dpa c) = refl
rest_of-with_length n (Rar c) = refl
rest_of-with_length n (Raa c) = refl
rest_of-with_length n (Ccr c) = refl
rest_of-with_length n (Cca c) = refl
rest_of-with_length n (ErrorAnswer c) = refl

-- the AVPs that an entry takes were read
read_each : (f : AvpFormat) (list : List Avp) → All HasBytes list → All (IsRead f.code) (taken f list)
read_each f list fits k a lt =
    let own : is_coded f.code (get_or (taken f list) k a) ≡ true = took-Passes f.several (is_for f) list k a lt in
    record {
      code_is = coded_code f.code (get_or (taken f list) k a) own;
      no_vendor = coded_vendor f.code (get_or (taken f list) k a) own;
      octets_are = took-All HasBytes f.several (is_for f) list fits k a lt;
    }

first_bool : (a b : Bool) (xs ys : List Bool) → a ∷ xs ≡ b ∷ ys → (a ≡ b) × (xs ≡ ys)
first_bool a b xs ys e = (cc, cc)

are_read : (d : List Definition) (formats : List AvpFormat) (values : List Field) (list : List Avp) → AreFields d values (groups formats list) → All HasBytes list
    → map (λ f. is_grouped (definition_of d f.code None)) formats ≡ map has_groups values → AreReadOf d formats values (groups formats list)
are_read d [] [] list h fits e = tt
are_read d [] (v ∷ values) list h fits e = absurd h
are_read d (f ∷ formats) [] list h fits e = absurd h
are_read d (f ∷ formats) (v ∷ values) list h fits e =
    let k = first_bool (is_grouped (definition_of d f.code None)) (has_groups v) _ _ e in
    (record { value = h.0; each = read_each f list fits; kind = k.0 }, are_read d formats values list h.1 fits k.1)

-- values that were read from AVPs are read from their canonical encodings
each_plain : (d : List Definition) (code : ℕ) (list : List Avp) → All (IsRead code) list → is_grouped (definition_of d code None) ≡ false → map (canonical d 4) list ≡ list
each_plain d code [] h plain = refl
each_plain d code (a ∷ list) h plain =
    let r = All-head (IsRead code) a list h in
    let definition : definition_of d a.code a.vendor ≡ definition_of d code None = ap (λ (n : ℕ). definition_of d n a.vendor) r.code_is ∙ ap (λ (v : Option ℕ). definition_of d code v) r.no_vendor in
    rw (canonical-plain d 4 a (ap is_grouped definition ∙ plain)) (ap (λ (l : List Avp). a ∷ l) (each_plain d code list (All-tail (IsRead code) a list h) plain))

inner : (d : List Definition) (octets : List ℕ) → IsBytes octets → length octets + 8 < 2 ^ 24 → map (canonical d 3) (avps_in (encoding (map (canonical d 3) (avps_in octets).0))).0 ≡ map (canonical d 3) (avps_in octets).0
inner d octets fits short =
    ap (λ (x : List Avp × List ℕ). map (canonical d 3) x.0) (canonical_inner d 3 octets fits short)
    ∙ canonicals_again d 3 (avps_in octets).0 (avps_in-bytes octets fits) (avps_in-short octets fits)

group_again : (d : List Definition) (code : ℕ) (a : Avp) (v : TypedAvp (List Avp)) → IsRead code a → IsShort a → is_grouped (definition_of d code None) ≡ true → IsTypedOf (IsGroup d) v a → IsTypedOf (IsGroup d) v (canonical d 4 a)
group_again d code a v r short group k =
    let definition : definition_of d a.code a.vendor ≡ definition_of d code None = ap (λ (n : ℕ). definition_of d n a.vendor) r.code_is ∙ ap (λ (o : Option ℕ). definition_of d code o) r.no_vendor in
    let h = canonical_head d 4 a in
    let o : (canonical d 4 a).octets ≡ encoding (map (canonical d 3) (avps_in a.octets).0) = ap (λ (b : Avp). b.octets) (canonical-group d 3 a (ap is_grouped definition ∙ group)) in
    let same : map (canonical d 3) (avps_in (canonical d 4 a).octets).0 ≡ v.value =
    ap (λ (s : List ℕ). map (canonical d 3) (avps_in s).0) o ∙ inner d a.octets r.octets_are (short_data a short) ∙ sym (AreCanonical-again d 3 a.octets v.value (IsCanonical-again d 3) k.value) in
    record {
      mandatory = k.mandatory ∙ sym h.mandatory;
      protected = k.protected ∙ sym h.protected;
      value = subst (AreCanonical d 3 (canonical d 4 a).octets) same (AreCanonical-takes d 3 (canonical d 4 a).octets (canonical_bytes d 4 a r.octets_are) (IsCanonical-takes d 3));
    }

groups_again : (d : List Definition) (code : ℕ) (values : List (TypedAvp (List Avp))) (list : List Avp) → All (IsRead code) list → All IsShort list → is_grouped (definition_of d code None) ≡ true → AreTypedOf (IsGroup d) values list → AreTypedOf (IsGroup d) values (map (canonical d 4) list)
groups_again d code [] [] r s group h = tt
groups_again d code [] (a ∷ list) r s group h = absurd h
groups_again d code (v ∷ values) [] r s group h = absurd h
groups_again d code (v ∷ values) (a ∷ list) r s group h =
    (group_again d code a v (All-head (IsRead code) a list r) (All-head IsShort a list s) group h.0, groups_again d code values list (All-tail (IsRead code) a list r) (All-tail IsShort a list s) group h.1)

field_plain : (d : List Definition) (code : ℕ) (v : Field) (list : List Avp) → IsReadOf d code v list → has_groups v ≡ false → IsFieldOf d v (map (canonical d 4) list)
field_plain d code v list r e = subst (IsFieldOf d v) (sym (each_plain d code list r.each (r.kind ∙ e))) r.value

field_stays : (d : List Definition) (code : ℕ) (v : Field) (list : List Avp) → IsReadOf d code v list → All IsShort list → IsFieldOf d v (map (canonical d 4) list)
field_stays d code (Octets v) list r s = field_plain d code (Octets v) list r refl
field_stays d code (Numbers v) list r s = field_plain d code (Numbers v) list r refl
field_stays d code (Types v) list r s = field_plain d code (Types v) list r refl
field_stays d code (Actions v) list r s = field_plain d code (Actions v) list r refl
field_stays d code (Groups v) list r s = groups_again d code v list r.each s r.kind r.value

fields_stay : (d : List Definition) (formats : List AvpFormat) (values : List Field) (list w : List Avp) → ((f : AvpFormat) → taken f w ≡ map (canonical d 4) (taken f list)) → All IsShort list
    → AreReadOf d formats values (groups formats list) → AreFields d values (groups formats w)
fields_stay d [] [] list w same s h = tt
fields_stay d [] (v ∷ values) list w same s h = absurd h
fields_stay d (f ∷ formats) [] list w same s h = absurd h
fields_stay d (f ∷ formats) (v ∷ values) list w same s h =
    (rw (same f) (field_stays d f.code v (taken f list) h.0 (took-All IsShort f.several (is_for f) list s)), fields_stay d formats values list w same s h.1)

length-encoding-spread : (formats : List AvpFormat) (list : List Avp) → length (encoding (spread formats list)) ≡ length (encoding list)
length-encoding-spread formats list =
    length-flat_map encoded (spread formats list) ∙ spread-sum (λ a. length (encoded a)) formats list ∙ sym (length-flat_map encoded list)

-- how many there are, as a sum
sum_by-ones : (list : List Avp) → sum_by (λ a. 1) list ≡ length list
sum_by-ones [] = refl
sum_by-ones (a ∷ list) = omega (arith, sum_by-cons (λ (x : Avp). 1) a list, sum_by-ones list)

length-spread : (formats : List AvpFormat) (list : List Avp) → length (spread formats list) ≡ length list
length-spread formats list = sym (sum_by-ones (spread formats list)) ∙ spread-sum (λ a. 1) formats list ∙ sum_by-ones list

abbrev application_bad : Header → Bool
application_bad h = not (h.application == application_of h.command)

-- the header of the encoding
record EncodedHeader (octets : List ℕ) (c : Command) : Type 0 where
  pub header_is : header_in (encode c) ≡ record (header_in octets) { length = message_len c }
  pub known_by : kind_in (encode c) ≡ kind_in octets
  pub none : header_faults (encode c) ≡ []

abbrev kind_by : Header → Option CommandKind
kind_by h = kind_coded h.command h.flags.request

some_known : (octets : List ℕ) (o : Option CommandKind) (kind : CommandKind) (f : CommandKind → CommandKind) → o ≡ kind_in octets → option_map f o ≡ Some kind → (k : CommandKind) × (kind_in octets ≡ Some k)
some_known octets None kind f e h = absurd cc
some_known octets (Some k) kind f e h = (k, sym e)

encoded_header : (octets : List ℕ) (c : Command) → IsBytes octets → SoundHeader octets → header_of c ≡ header_in octets → ((k : CommandKind) × (kind_in octets ≡ Some k)) → message_len c < 2 ^ 24 → EncodedHeader octets c
encoded_header octets c fits sound is kind short =
    let s = encode c in
    let n = message_len c in
    let header_is : header_in s ≡ with_field n (header_in octets) =
    encode-header c (subst (λ (h : Header). HasFields h) (sym is) (HasFields-header_in octets fits)) short ∙ ap (with_field n) is in
    let known_by : kind_in s ≡ kind_in octets = ap kind_by header_is in
    let application : application_bad (header_in s) ≡ application_bad (header_in octets) = ap application_bad header_is in
    let w = encode-whole c short in
    let good = length-good s w.has_header w.length_is w.aligned in
    record { header_is = header_is; known_by = known_by; none = header-faultless s kind.0 good w.version (known_by ∙ kind.1) (application ∙ sound.application_good) }

abbrev event_of : List ℕ → Bool
event_of octets = is_event (header_in octets) (whole_avps octets)

-- a command that was read: its kind, header, fields and rest, by the AVPs of the octets
record Shape (x : List Definition) (octets : List ℕ) (c : Command) : Type 0 where
  pub none : faults (known x) octets ≡ []
  pub kind : kind_read (header_in octets) (whole_avps octets) ≡ Some (kind_of c)
  pub header : header_of c ≡ header_in octets
  pub fields_are : AreFields (known x) (fields c) (groups (format_of (kind_of c) (event_of octets)) (whole_avps octets))
  pub rest : rest_of c ≡ map (canonical (known x) 4) (untaken (format_of (kind_of c) (event_of octets)) (whole_avps octets))

shape : (x : List Definition) (octets : List ℕ) (c : Command) → IsReading (known x) octets (Ok c) → Shape x octets c
shape x octets c r =
    let d = known x in
    let m = r.1 in
    let h = header_in octets in
    let parts : avps_in (drop 20 octets) ≡ (m.avps, []) = avps_in-only (drop 20 octets) m.avps [] m.whole (inl refl) in
    let same : m.avps ≡ whole_avps octets = sym (ap (λ (p : List Avp × List ℕ). p.0) parts) in
    let kind = subst (λ (l : List Avp). kind_read h l ≡ Some (kind_of c)) same m.kind in
    let format = format_known h (whole_avps octets) (kind_of c) kind in
    let values = subst (λ (l : List Avp). AreFields d (fields c) (groups (format_read h l) l)) same m.fields_are in
    let rest = subst (λ (l : List Avp). AreEach (IsCanonical d 4) (untaken (format_read h l) l) (rest_of c)) same m.rest in
    record {
      none = sym (HasFaults-again d octets [] r.0);
      kind = kind;
      header = m.header;
      fields_are = subst (λ (fs : List AvpFormat). AreFields d (fields c) (groups fs (whole_avps octets))) format values;
      rest = AreEach-again d 4 _ (rest_of c) rest ∙ ap (λ (fs : List AvpFormat). map (canonical d 4) (untaken fs (whole_avps octets))) format;
    }

-- the AVPs that were read, in the order of the format, as they are written
abbrev format_in : List ℕ → Command → List AvpFormat
format_in octets c = format_of (kind_of c) (event_of octets)

abbrev encoded_list : List Definition → List ℕ → Command → List Avp
encoded_list x octets c = written (known x) (format_in octets c) (whole_avps octets)

body_bytes : (octets : List ℕ) → IsBytes octets → All HasBytes (whole_avps octets)
body_bytes octets fits = avps_in-bytes (drop 20 octets) (IsBytes-drop 20 octets fits)

body_short : (octets : List ℕ) → IsBytes octets → All IsShort (whole_avps octets)
body_short octets fits = avps_in-short (drop 20 octets) (IsBytes-drop 20 octets fits)

read_of : (x : List Definition) (octets : List ℕ) (c : Command) → IsBytes octets → Shape x octets c → AreReadOf (known x) (format_in octets c) (fields c) (groups (format_in octets c) (whole_avps octets))
read_of x octets c fits s = are_read (known x) (format_in octets c) (fields c) (whole_avps octets) s.fields_are (body_bytes octets fits) (group_kinds x c (event_of octets))

abbrev joined : List (List Avp) → List Avp
joined gs = flat_map (λ list. list) gs

avps_are : (x : List Definition) (octets : List ℕ) (c : Command) → IsBytes octets → Shape x octets c → avps_of c ≡ encoded_list x octets c
avps_are x octets c fits s =
    let d = known x in
    let f = canonical d 4 in
    let fs = format_in octets c in
    let list = whole_avps octets in
    let gs = groups fs list in
    ap (λ (l : List Avp). l ++ rest_of c) (same_format c (event_of octets) ∙ written_again d fs (fields c) gs (read_of x octets c fits s))
    ∙ ap (λ (l : List Avp). map f (joined gs) ++ l) s.rest
    ∙ sym (map-append f (joined gs) (untaken fs list))
    ∙ ap (λ (l : List Avp). map f l) (spread-is fs list (distinct (kind_of c) (event_of octets)))

-- what was read is no longer as it is written
fits_again : (x : List Definition) (octets : List ℕ) (c : Command) → IsBytes octets → SoundLength octets → Shape x octets c → message_len c < 2 ^ 24
fits_again x octets c fits s shape =
    let body = drop 20 octets in
    let bytes = IsBytes-drop 20 octets fits in
    let list = whole_avps octets in
    let fs = format_in octets c in
    let short : (header_in octets).length < 2 ^ 24 = big_number_3-lt (drop 1 octets) (IsBytes-drop 1 octets fits) in
    let body_len : length body ≡ length octets - 20 = length-drop 20 octets in
    let room = avps_in-room body bytes in
    let canonical_room = canonicals_room (known x) 4 (spread fs list) (spread-All HasBytes fs list (avps_in-bytes body bytes)) in
    let same = length-encoding-spread fs list in
    omega (arith, short, s.own, s.has_header, s.aligned, body_len, room, canonical_room, same, ap (λ (l : List Avp). length (encoding l)) (avps_are x octets c fits shape))

-- the encoding: its header, its AVPs
record Encoded (x : List Definition) (octets : List ℕ) (c : Command) : Type 0 where
  pub header : EncodedHeader octets c
  pub body : IsBytes (drop 20 (encode c))
  pub avps : avps_in (drop 20 (encode c)) ≡ (encoded_list x octets c, [])

encoded_parts : (x : List Definition) (octets : List ℕ) (c : Command) → IsBytes octets → Shape x octets c → EncodedHeader octets c → message_len c < 2 ^ 24 → Encoded x octets c
encoded_parts x octets c fits shape header short =
    let d = known x in
    let body = drop 20 octets in
    let bytes = IsBytes-drop 20 octets fits in
    let fs = format_in octets c in
    let list = whole_avps octets in
    let order = spread fs list in
    let w = map (canonical d 4) order in
    let is = avps_are x octets c fits shape in
    let fit : length (encoding w) < 2 ^ 24 = omega (arith, short, ap (λ (l : List Avp). length (encoding l)) is) in
    let same : drop 20 (encode c) ≡ encoding w = encode-body c ∙ ap encoding is in
    record {
      header = header;
      body = subst IsBytes (sym same) (encoding-bytes w (canonicals_bytes d 4 order (spread-All HasBytes fs list (avps_in-bytes body bytes))));
      avps = ap avps_in same ∙ avps_in-encoding w (canonicals_numbers d 4 order (spread-All HasNumbers fs list (avps_in-numbers body bytes))) (short_each w (2 ^ 24) fit)
          (canonicals_not_zero d 4 order (spread-All (λ a. a.vendor ≡ Some 0 → ⊥) fs list (avps_in-not_zero body bytes)));
    }

three_none : (xs ys zs : List MsgFault) → xs ++ (ys ++ zs) ≡ [] → (xs ≡ []) × (ys ≡ []) × (zs ≡ [])
three_none xs ys zs e =
    let a = none_both xs (ys ++ zs) e in
    let b = none_both ys zs a.1 in
    (a.0, b.0, b.1)

all_none : (xs ys zs : List MsgFault) → xs ≡ [] → ys ≡ [] → zs ≡ [] → xs ++ (ys ++ zs) ≡ []
all_none xs ys zs a b c = rw (a, b, c) refl

-- it has no fault
encoded_good : (x : List Definition) (octets : List ℕ) (c : Command) → IsBytes octets → Shape x octets c → Encoded x octets c → faults (known x) (encode c) ≡ []
encoded_good x octets c fits shape r =
    let d = known x in
    let s = encode c in
    let h = header_in octets in
    let n = message_len c in
    let list = whole_avps octets in
    let e = event_of octets in
    let fs = format_in octets c in
    let order = spread fs list in
    let w = encoded_list x octets c in
    let body = drop 20 octets in
    let three = three_none (header_faults octets) (group_faults d e 5 body) (later_faults d h list) shape.none in
    let whole : whole_avps s ≡ w = ap (λ (p : List Avp × List ℕ). p.0) r.avps in
    let good = spread-All (IsGood d e 4) fs list (each_good d e 4 body three.1) in
    let each = canonicals_good d e 4 order (spread-All HasBytes fs list (body_bytes octets fits)) (spread-All IsShort fs list (body_short octets fits)) good in
    let many : length w ≤ 128 = omega (arith, few d e 4 body three.1, length-spread fs list, length-map order (canonical d 4)) in
    let event : is_event (header_in s) (whole_avps s) ≡ e =
    ap (λ (k : Header). is_event k (whole_avps s)) r.header.header_is ∙ ap (λ (l : List Avp). is_event (with_field n h) l) whole ∙ event_stays x fs list h n in
    let inside : group_faults d (is_event (header_in s) (whole_avps s)) 5 (drop 20 s) ≡ [] =
    ap (λ (b : Bool). group_faults d b 5 (drop 20 s)) event ∙ good_octets d e 4 (drop 20 s) w r.avps each many in
    let later : later_faults d (header_in s) (whole_avps s) ≡ [] =
    ap (λ (k : Header). later_faults d k (whole_avps s)) r.header.header_is ∙ ap (λ (l : List Avp). later_faults d (with_field n h) l) whole
    ∙ later_stays x fs list h n (body_bytes octets fits) (body_short octets fits) ∙ three.2 in
    all_none (header_faults s) (group_faults d (is_event (header_in s) (whole_avps s)) 5 (drop 20 s)) (later_faults d (header_in s) (whole_avps s)) r.header.none inside later

-- and means the command
encoded_means : (x : List Definition) (octets : List ℕ) (c : Command) → IsBytes octets → Shape x octets c → Encoded x octets c → Means (known x) (encode c) (with_length (length (encode c)) c)
encoded_means x octets c fits shape r =
    let d = known x in
    let f = canonical d 4 in
    let s = encode c in
    let n = length s in
    let h = header_in octets in
    let list = whole_avps octets in
    let fs = format_in octets c in
    let w = encoded_list x octets c in
    let bytes = body_bytes octets fits in
    let short = body_short octets fits in
    let header : header_in s ≡ with_field n h = r.header.header_is ∙ ap (λ (k : ℕ). with_field k h) (sym (length-encode c)) in
    let format : format_read (header_in s) w ≡ fs =
    ap (λ (k : Header). format_read k w) header ∙ format_stays x fs list h n ∙ format_known h list (kind_of c) shape.kind in
    let left : untaken fs w ≡ map f (untaken fs list) = untaken-each f fs (spread fs list) (canonical_keeps d 4) ∙ ap (λ (l : List Avp). map f l) (untaken-spread fs list) in
    let ub = untaken-All HasBytes fs list bytes in
    let again : map f (map f (untaken fs list)) ≡ rest_of (with_length n c) =
    canonicals_again d 4 (untaken fs list) ub (untaken-All IsShort fs list short) ∙ sym shape.rest ∙ sym (rest_of-with_length n c) in
    record {
      avps = w;
      whole = all_are (drop 20 s) w r.body r.avps;
      kind = ap (λ (k : Header). kind_read k w) header ∙ kind_stays x fs list h n ∙ shape.kind ∙ ap some_kind (sym (kind_of-with_length n c));
      header = header_of-with_length n c ∙ ap (with_field n) shape.header ∙ sym header;
      fields_are =
          subst (λ (v : List Field). AreFields d v (groups (format_read (header_in s) w) w)) (sym (fields-with_length n c))
          (subst (λ (gs : List AvpFormat). AreFields d (fields c) (groups gs w)) (sym format)
          (fields_stay d fs (fields c) list w (λ q. taken-each f q (spread fs list) (canonical_keeps d 4) ∙ ap (λ (l : List Avp). map f l) (taken-spread q fs list)) short (read_of x octets c fits shape)));
      rest =
          subst (λ (gs : List AvpFormat). AreEach (IsCanonical d 4) (untaken gs w) (rest_of (with_length n c))) (sym format)
          (subst (λ (l : List Avp). AreEach (IsCanonical d 4) l (rest_of (with_length n c))) (sym left)
          (subst (λ (l : List Avp). AreEach (IsCanonical d 4) (map f (untaken fs list)) l) again (AreEach-takes d 4 (map f (untaken fs list)) (canonicals_bytes d 4 (untaken fs list) ub))));
    }

encode_again : (x : List Definition) (octets : List ℕ) (c : Command) → IsBytes octets → IsReading (known x) octets (Ok c) → IsReadAgain (known x) c
encode_again x octets c fits h =
    let d = known x in
    let s = shape x octets c h in
    let three = three_none (header_faults octets) (group_faults d (event_of octets) 5 (drop 20 octets)) (later_faults d (header_in octets) (whole_avps octets)) s.none in
    let sound = sound_header octets three.0 in
    let short = fits_again x octets c fits (sound_length octets sound.length_good) s in
    let kind = some_known octets (kind_in octets) (kind_of c) (λ k. read_as k (header_in octets).flags (whole_avps octets)) refl s.kind in
    let r = encoded_parts x octets c fits s (encoded_header octets c fits sound s.header kind short) short in
    (subst (λ (fs : List MsgFault). HasFaults d (encode c) fs) (encoded_good x octets c fits s r) (HasFaults-takes d (encode c) r.body), encoded_means x octets c fits s r)

-- the encoding of what was read is read as the same command
pub read_again : (x : List Definition) (octets : List ℕ) (r : Result Command MsgError) → IsBytes octets → UnlessNoMemory r (IsReading (known x) octets) → IfOk r (IsReadAgain (known x))
read_again x octets (Ok c) fits h = encode_again x octets c fits h
read_again x octets (Err e) fits h = tt
