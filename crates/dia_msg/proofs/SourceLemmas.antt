-- The AVPs that a field is made of are there, and their data are of its type.
use Rattle.std.proofs.Common.{◌≡◌, ◌==◌, ◌&&◌, ◌||◌, ℕ, zero, suc, ◌+◌, ◌<◌, ◌≤◌, ◌^◌, ◌++◌, append_assoc, Bool, true, false, cond, List, [], ◌∷◌, length, map, take, filter, get_or, Option, None, Some, All, refl, sym, ap, subst, ◌∙◌, arith}
use Rattle.std.specs.Prelude.{slice_get, is_none, is_some, nat_lt, IsSome, IsOk, IfErr, Result, Ok, Err}
use Rattle.std.specs.List.{flat_map}
use Rattle.std.proofs.Math.Seq.{take-suc}
use Rattle.std.proofs.lemmas.List.{append-nil, map-append, length-map}
use Rattle.std.specs.Option.{option_map, option_to_list}
use Rattle.std.specs.Result.{OnOk, is_err}
use Rattle.std.specs.Str.{is_utf8, IsUtf8}
use Rattle.std.proofs.lemmas.Bool.{eqb-true, eqb-false, ltb-false}
use Rattle.std.proofs.lemmas.Option.{slice_get-get_or, get_or_from_slice_get, slice_get_within, slice_get_past}
use Rattle.std.proofs.lemmas.List.Elements.{All-head, All-filter, filter_passes, filter-append}
use Rattle.byteorder.specs.Endian.{big_number}
use Rattle.dia_avp.specs.declared.avp.Avp.{Avp}
use Rattle.dia_avp.specs.declared.avp.AvpView.{AvpView}
use Rattle.dia_avp.specs.declared.fault.FieldFault.{FieldFault}
use Rattle.dia_avp.specs.declared.fault.FieldFault.TheVariants as fieldfaults
use Rattle.dia_avp.specs.View.{seen}
use Rattle.dia_avp.specs.Encoding.{length_of}
use Rattle.dia_avp.specs.Look.{is_coded}
use Rattle.dia_avp.proofs.FieldLaws.{not_utf8}
use Rattle.dia_dict.specs.declared.definition.AvpKind.{AvpKind}
use Rattle.dia_dict.specs.declared.definition.AvpKind.TheVariants.{Unsigned32, Unsigned64, Enumerated, Utf8String, DiameterIdentity, Address, Grouped, Time, OctetString}
use Rattle.dia_dict.specs.declared.definition.Definition.{Definition}
use Rattle.dia_dict.specs.declared.fault.DictFault.TheVariants.{BadLength, BadValue}
use Rattle.dia_dict.specs.Kind.{least_size}
use Rattle.dia_dict.specs.Dictionary.{known, definition_of}
use Rattle.dia_tree.specs.declared.fault.MsgFault.{MsgFault}
use Rattle.dia_tree.specs.Faults.{fault, is_bad_value, least_of, data_faults, own_faults, typed_faults, faults_by, group_faults, IsGood}
use Rattle.base_codes.specs.declared.result_code.ResultCode.TheVariants.{InvalidAvpValue}
use Rattle.dia_command.specs.declared.format.AvpFormat.{AvpFormat}
use Rattle.dia_command.specs.Value.{type_coded}
use Rattle.dia_command.specs.declared.typed.TypedAvp.{TypedAvp}
use Rattle.dia_command.specs.Field.{type_in, IsTypedOf, AreTypedOf}
use Rattle.dia_msg.specs.declared.sorting.Sorted.{Sorted}
use Rattle.dia_msg.specs.Taken.{is_for, first_of, taken, is_missing, missing}
use Rattle.dia_msg.specs.Sorting.{seen_all, placed, all_placed, IsSorted}
use Rattle.dia_msg.specs.Source.{entry_at, takes, IsReady, IsOne, IsPerhaps, IsSeveral, AreNumbers, AreTexts, IsSound}
use Rattle.dia_msg.proofs.SortLemmas.{front-more}

both_true : (a b : Bool) → (a && b) ≡ true → (a ≡ true) × (b ≡ true)
both_true true b e = (refl, e)
both_true false b e = absurd cc

none_is : (v : Option ℕ) → is_none v ≡ true → v ≡ None
none_is None e = refl
none_is (Some n) e = absurd cc

pub coded_code : (code : ℕ) (a : Avp) → is_coded code a ≡ true → a.code ≡ code
coded_code code a e = eqb-true a.code code (both_true (a.code == code) (is_none a.vendor) e).0

pub coded_vendor : (code : ℕ) (a : Avp) → is_coded code a ≡ true → a.vendor ≡ None
coded_vendor code a e = none_is a.vendor (both_true (a.code == code) (is_none a.vendor) e).1

pub coded_definition : (d : List Definition) (code : ℕ) (a : Avp) → is_coded code a ≡ true → definition_of d a.code a.vendor ≡ definition_of d code None
coded_definition d code a e =
    ap (λ (n : ℕ). definition_of d n a.vendor) (coded_code code a e) ∙ ap (λ (v : Option ℕ). definition_of d code v) (coded_vendor code a e)

-- a number without a fault has 4 octets
four : (event : Bool) (a : Avp) (b : Bool) → (length a.octets == 4) ≡ b → data_faults (cond b None (Some BadLength)) 4 event a ≡ [] → length a.octets ≡ 4
four event a true e f = eqb-true (length a.octets) 4 e
four event a false e f = absurd cc

sized : (inside : List ℕ → List MsgFault) (event : Bool) (a : Avp) (kind : AvpKind) → least_size kind ≡ 4 → typed_faults inside kind event a ≡ [] → length a.octets ≡ 4
sized inside event a Unsigned32 s f = four event a (length a.octets == 4) refl f
sized inside event a Unsigned64 s f = absurd (omega arith)
sized inside event a Enumerated s f = four event a (length a.octets == 4) refl f
sized inside event a Utf8String s f = absurd (omega arith)
sized inside event a DiameterIdentity s f = absurd (omega arith)
sized inside event a Address s f = absurd (omega arith)
sized inside event a Grouped s f = absurd (omega arith)
sized inside event a Time s f = four event a (length a.octets == 4) refl f
sized inside event a OctetString s f = absurd (omega arith)

defined : (inside : List ℕ → List MsgFault) (event : Bool) (a : Avp) (definition : Option Definition) → least_of definition ≡ 4 → faults_by inside definition event a ≡ [] → length a.octets ≡ 4
defined inside event a None s f = absurd (omega arith)
defined inside event a (Some x) s f = sized inside event a x.kind s f

number_size : (added : List Definition) (event : Bool) (code : ℕ) (a : Avp) → is_coded code a ≡ true → IsGood (known added) event 4 a → AreNumbers added code → length a.octets ≡ 4
number_size added event code a e good s =
    defined (group_faults (known added) event 4) event a (definition_of (known added) a.code a.vendor) (ap least_of (coded_definition (known added) code a e) ∙ s) good

-- text without a fault is UTF-8
valid : (event : Bool) (a : Avp) (b : Bool) → is_utf8 a.octets ≡ b → data_faults (cond b None (Some BadValue)) 0 event a ≡ [] → is_utf8 a.octets ≡ true
valid event a true e f = e
valid event a false e f = absurd cc

abbrev kind_of_definition : Option Definition → Option AvpKind
kind_of_definition definition = option_map (λ d. d.kind) definition

text_by : (inside : List ℕ → List MsgFault) (event : Bool) (a : Avp) (definition : Option Definition) → kind_of_definition definition ≡ Some Utf8String → faults_by inside definition event a ≡ [] → is_utf8 a.octets ≡ true
text_by inside event a None s f = absurd cc
text_by inside event a (Some x) s f =
    let is : x.kind ≡ Utf8String = cc in
    valid event a (is_utf8 a.octets) refl (subst (λ (k : AvpKind). typed_faults inside k event a ≡ []) is f)

text_valid : (added : List Definition) (event : Bool) (code : ℕ) (a : Avp) → is_coded code a ≡ true → IsGood (known added) event 4 a → AreTexts added code → is_utf8 a.octets ≡ true
text_valid added event code a e good s =
    text_by (group_faults (known added) event 4) event a (definition_of (known added) a.code a.vendor) (ap kind_of_definition (coded_definition (known added) code a e) ∙ s) good

-- a CC-Request-Type without a fault is 1 to 4
no_fault : (b : Bool) (a : Avp) (fs : List MsgFault) (f : MsgFault) → fs ≡ cond b (f ∷ []) [] → fs ≡ [] → b ≡ false
no_fault true a fs f e h = absurd cc
no_fault false a fs f e h = refl

or_right : (a b : Bool) → (a || b) ≡ false → b ≡ false
or_right true b e = absurd cc
or_right false b e = e

none_left : (n : ℕ) → (n == 1) ≡ false → (n == 2) ≡ false → (n == 3) ≡ false → (n == 4) ≡ false → ((n == 0) || nat_lt 4 n) ≡ false → ⊥
none_left zero a b c d e = absurd cc
none_left (suc n) a b c d e =
    let le : suc n ≤ 4 = ltb-false 4 (suc n) (or_right (suc n == 0) (nat_lt 4 (suc n)) e) in
    let p = eqb-false (suc n) 1 a in
    let q = eqb-false (suc n) 2 b in
    let r = eqb-false (suc n) 3 c in
    let s = eqb-false (suc n) 4 d in
    omega (arith, le, p, q, r, s)

is_type : (n : ℕ) (a b c d : Bool) → (n == 1) ≡ a → (n == 2) ≡ b → (n == 3) ≡ c → (n == 4) ≡ d → ((n == 0) || nat_lt 4 n) ≡ false → is_some (type_coded n) ≡ true
unfolding type_coded
is_type n true b c d e f g h k = rw e refl
is_type n false true c d e f g h k = rw (e, f) refl
is_type n false false true d e f g h k = rw (e, f, g) refl
is_type n false false false true e f g h k = rw (e, f, g, h) refl
is_type n false false false false e f g h k = absurd (none_left n e f g h k)

abbrev own_by : Bool → ℕ → Option ℕ → Avp → List MsgFault
own_by event code vendor a = cond (is_none vendor && is_bad_value event code a.octets) (fault InvalidAvpValue (Some a) ∷ []) []

type_number_by : (event : Bool) (a : Avp) → own_faults event a ≡ [] → a.code ≡ 416 → a.vendor ≡ None → ((big_number 4 a.octets == 0) || nat_lt 4 (big_number 4 a.octets)) ≡ false
type_number_by event a f c v =
    let e : own_faults event a ≡ own_by event 416 None a = ap (λ (n : ℕ). own_by event n a.vendor a) c ∙ ap (λ (o : Option ℕ). own_by event 416 o a) v in
    no_fault _ a (own_faults event a) (fault InvalidAvpValue (Some a)) e f

type_by : (event : Bool) (a : Avp) (b : Bool) → (length a.octets == 4) ≡ b → data_faults (cond b None (Some BadLength)) 4 event a ≡ [] → a.code ≡ 416 → a.vendor ≡ None → is_some (type_in a.octets) ≡ true
type_by event a true e f c v =
    let n = big_number 4 a.octets in
    rw e (is_type n (n == 1) (n == 2) (n == 3) (n == 4) refl refl refl refl (type_number_by event a f c v))
type_by event a false e f c v = absurd cc

type_good : (added : List Definition) (event : Bool) (a : Avp) → is_coded 416 a ≡ true → IsGood (known added) event 4 a → is_some (type_in a.octets) ≡ true
type_good added event a own good =
    let found : definition_of (known added) a.code a.vendor ≡ definition_of (known added) 416 None = coded_definition (known added) 416 a own in
    let f : faults_by (group_faults (known added) event 4) (definition_of (known added) 416 None) event a ≡ [] =
    subst (λ (o : Option Definition). faults_by (group_faults (known added) event 4) o event a ≡ []) found good in
    type_by event a (length a.octets == 4) refl f (coded_code 416 a own) (coded_vendor 416 a own)

-- what the first of a list is, all are
first_all : (P : Avp → Type 0) (list : List Avp) (a : Avp) → slice_get list 0 ≡ Some a → All P list → P a
first_all P [] a e h = absurd cc
first_all P (x ∷ list) a e h = let same : x ≡ a = cc in subst P same (All-head P x list h)

-- an AVP of a code without a fault has data of its type
sound_of : (added : List Definition) (event : Bool) (code : ℕ) (a : Avp) → is_coded code a ≡ true → IsGood (known added) event 4 a → IsSound added code a
sound_of added event code a own good = record {
  number = number_size added event code a own good;
  text = text_valid added event code a own good;
  request_type = λ is. type_good added event a (subst (λ (n : ℕ). is_coded n a ≡ true) is own) good;
}

sound_first : (added : List Definition) (event : Bool) (code : ℕ) (list : List Avp) (a : Avp) → first_of code list ≡ Some a → All (IsGood (known added) event 4) list → IsSound added code a
sound_first added event code list a e good =
    sound_of added event code a (first_all (λ x. is_coded code x ≡ true) (filter (is_coded code) list) a e (filter_passes (is_coded code) list))
    (first_all (IsGood (known added) event 4) (filter (is_coded code) list) a e (All-filter (is_coded code) (IsGood (known added) event 4) list good))

-- the AVP at the place of an entry
take_one : (l : List Avp) → take 1 l ≡ option_to_list (slice_get l 0)
take_one [] = refl
take_one (a ∷ l) = refl

taken_once : (b : Bool) (f : AvpFormat) (list : List Avp) → f.several ≡ b → b ≡ false → taken f list ≡ option_to_list (first_of f.code list)
taken_once true f list e h = absurd cc
taken_once false f list e h = rw e (take_one (filter (is_for f) list))

placed_first : (formats : List AvpFormat) (list : List Avp) (s : Sorted) (place : ℕ) → IsSorted formats list s → place < length formats → placed list (get_or s.firsts place None) ≡ first_of (entry_at formats place).code list
placed_first formats list s place h lt = h.firsts place (entry_at formats place) (slice_get-get_or formats place _ lt)

takes_once : (formats : List AvpFormat) (list : List Avp) (place : ℕ) → (entry_at formats place).several ≡ false → takes formats list place ≡ option_to_list (first_of (entry_at formats place).code list)
takes_once formats list place e = taken_once (entry_at formats place).several (entry_at formats place) list refl e

-- no entry's AVP is missing
kept : (list : List Avp) (f : AvpFormat) (formats : List AvpFormat) (b : Bool) → is_missing list f ≡ b → missing (f ∷ formats) list ≡ [] → (b ≡ false) × (missing formats list ≡ [])
kept list f formats true e h = let k : f ∷ missing formats list ≡ [] = rw e at h in absurd cc
kept list f formats false e h = (refl, rw e at h)

present : (formats : List AvpFormat) (list : List Avp) (k : ℕ) → missing formats list ≡ [] → k < length formats → is_missing list (entry_at formats k) ≡ false
present [] list k h lt = absurd (omega arith)
present (f ∷ formats) list zero h lt = (kept list f formats (is_missing list f) refl h).0
present (f ∷ formats) list (suc k) h lt = present formats list k (kept list f formats (is_missing list f) refl h).1 (omega arith)

there_by : (r : Bool) (o : Option Avp) → (r && (length (option_to_list o) == 0)) ≡ false → r ≡ true → is_some o ≡ true
there_by true None e h = absurd cc
there_by true (Some a) e h = refl
there_by false o e h = absurd cc

pub there : (formats : List AvpFormat) (list : List Avp) (place : ℕ) → missing formats list ≡ [] → place < length formats → (entry_at formats place).required ≡ true → (entry_at formats place).several ≡ false → is_some (first_of (entry_at formats place).code list) ≡ true
there formats list place complete lt required once =
    there_by (entry_at formats place).required (first_of (entry_at formats place).code list)
    (ap (λ (l : List Avp). (entry_at formats place).required && (length l == 0)) (sym (takes_once formats list place once)) ∙ present formats list place complete lt) required

pub text_ok : {X : Type 0} (octets : List ℕ) (r : Result X FieldFault) → IfErr r (λ f. (f ≡ fieldfaults.BadValue) × ¬ (IsUtf8 octets)) → is_utf8 octets ≡ true → IsOk r
text_ok octets (Ok x) h e = refl
text_ok octets (Err f) h e = let n : is_utf8 octets ≡ false = not_utf8 octets h.1 in absurd cc

get-seen : (avps : List AvpView) (i : ℕ) (d : AvpView) (e : Avp) → i < length avps → get_or (seen_all avps) i e ≡ seen (get_or avps i d)
get-seen [] i d e lt = absurd (omega arith)
get-seen (v ∷ avps) zero d e lt = refl
get-seen (v ∷ avps) (suc i) d e lt = get-seen avps i d e (omega arith)

pub sound_at : (added : List Definition) (event : Bool) (code : ℕ) (avps : List AvpView) (i : ℕ) (d : AvpView) → i < length avps → All (IsGood (known added) event 4) (seen_all avps) → is_coded code (seen (get_or avps i d)) ≡ true
    → IsSound added code (seen (get_or avps i d))
sound_at added event code avps i d lt good own =
    let a = seen (get_or avps i d) in
    sound_of added event code a own (subst (IsGood (known added) event 4) (get-seen avps i d a lt) (good i a (omega (arith, length-map avps seen))))

-- the AVP that an entry takes, where it takes one
pub first_taken : (added : List Definition) (formats : List AvpFormat) (list : List Avp) (s : Sorted) (place : ℕ) (r : Option AvpView) → IsReady added formats list s → IsPerhaps formats place → option_map seen r ≡ placed list (get_or s.firsts place None)
    → option_map seen r ≡ first_of (entry_at formats place).code list
first_taken added formats list s place r ready held e = e ∙ placed_first formats list s place ready.sorted held.0

pub taken_seen : (added : List Definition) (formats : List AvpFormat) (list : List Avp) (s : Sorted) (place : ℕ) (r : Option AvpView) → IsReady added formats list s → IsPerhaps formats place → option_map seen r ≡ placed list (get_or s.firsts place None)
    → takes formats list place ≡ option_to_list (option_map seen r)
taken_seen added formats list s place r ready held e =
    takes_once formats list place held.1 ∙ ap (λ (o : Option Avp). option_to_list o) (sym (first_taken added formats list s place r ready held e))

-- an entry of any number of AVPs that has no first one takes none
no_first : (list : List Avp) → None ≡ slice_get list 0 → list ≡ []
no_first [] e = refl
no_first (a ∷ list) e = absurd cc

taken_all : (b : Bool) (f : AvpFormat) (list : List Avp) → f.several ≡ b → b ≡ true → taken f list ≡ filter (is_for f) list
taken_all true f list e h = rw e refl
taken_all false f list e h = absurd cc

pub none_taken : (added : List Definition) (formats : List AvpFormat) (list : List Avp) (s : Sorted) (place : ℕ) → IsReady added formats list s → IsSeveral formats place → None ≡ placed list (get_or s.firsts place None)
    → takes formats list place ≡ []
none_taken added formats list s place ready held e =
    let f = entry_at formats place in
    taken_all f.several f list refl held.1 ∙ no_first (filter (is_for f) list) (e ∙ placed_first formats list s place ready.sorted held.0)

pub taken_sound : (added : List Definition) (formats : List AvpFormat) (list : List Avp) (s : Sorted) (place : ℕ) (r : Option AvpView) (v : AvpView) → IsReady added formats list s → IsPerhaps formats place → option_map seen r ≡ placed list (get_or s.firsts place None)
    → r ≡ Some v → IsSound added (entry_at formats place).code (seen v)
taken_sound added formats list s place r v ready held e is =
    sound_first added ready.event (entry_at formats place).code list (seen v) (sym (first_taken added formats list s place r ready held e) ∙ ap (λ (o : Option AvpView). option_map seen o) is) ready.good

-- the AVP of an entry that must be there is there
view_there : (r : Option AvpView) (o : Option Avp) → option_map seen r ≡ o → is_some o ≡ true → IsSome r
view_there None o e h = absurd cc
view_there (Some v) o e h = refl

pub first_there : (added : List Definition) (formats : List AvpFormat) (list : List Avp) (s : Sorted) (place : ℕ) (r : Option AvpView) → IsReady added formats list s → IsOne formats place → option_map seen r ≡ placed list (get_or s.firsts place None)
    → IsSome r
first_there added formats list s place r ready held e =
    view_there r (first_of (entry_at formats place).code list) (first_taken added formats list s place r ready (held.0, held.2) e) (there formats list place ready.complete held.0 held.1 held.2)

-- a value of an AVP that must be there is there
value_there : {T : Type 0} (Is : List ℕ → T → Type 0) (o : Option (TypedAvp T)) (a : Option Avp) → AreTypedOf Is (option_to_list o) (option_to_list a) → is_some a ≡ true → IsSome o
value_there Is None None h e = absurd cc
value_there Is None (Some a) h e = absurd h
value_there Is (Some v) a h e = refl

pub one_there : {T : Type 0} (Is : List ℕ → T → Type 0) (formats : List AvpFormat) (list : List Avp) (place : ℕ) (o : Option (TypedAvp T)) → missing formats list ≡ [] → IsOne formats place → AreTypedOf Is (option_to_list o) (takes formats list place) → IsSome o
one_there Is formats list place o complete held h =
    value_there Is o (first_of (entry_at formats place).code list) (subst (AreTypedOf Is (option_to_list o)) (takes_once formats list place held.2) h) (there formats list place complete held.0 held.1 held.2)

-- one more AVP, and its value where it is of the code
values_more : {T : Type 0} (Is : List ℕ → T → Type 0) (values : List (TypedAvp T)) (list : List Avp) (v : TypedAvp T) (a : Avp) → AreTypedOf Is values list → IsTypedOf Is v a → AreTypedOf Is (values ++ v ∷ []) (list ++ a ∷ [])
values_more Is [] [] v a h k = (k, tt)
values_more Is [] (b ∷ list) v a h k = absurd h
values_more Is (w ∷ values) [] v a h k = absurd h
values_more Is (w ∷ values) (b ∷ list) v a h k = (h.0, values_more Is values list v a h.1 k)

abbrev coded_front : ℕ → List AvpView → ℕ → List Avp
coded_front code avps i = filter (is_coded code) (seen_all (take i avps))

coded_more : (code : ℕ) (avps : List AvpView) (i : ℕ) (d : AvpView) (b : Bool) → i < length avps → is_coded code (seen (get_or avps i d)) ≡ b → coded_front code avps (i + 1) ≡ coded_front code avps i ++ cond b (seen (get_or avps i d) ∷ []) []
coded_more code avps i d b lt e =
    let a = seen (get_or avps i d) in
    ap (λ (l : List Avp). filter (is_coded code) l) (sym (front-more avps i d lt)) ∙ filter-append (is_coded code) (seen_all (take i avps)) (a ∷ [])
    ∙ ap (λ (c : Bool). coded_front code avps i ++ cond c (a ∷ []) []) e

pub values_next : {T : Type 0} (Is : List ℕ → T → Type 0) (code : ℕ) (avps : List AvpView) (i : ℕ) (d : AvpView) (values : List (TypedAvp T)) (v : TypedAvp T) → i < length avps → is_coded code (seen (get_or avps i d)) ≡ true
    → AreTypedOf Is values (coded_front code avps i) → IsTypedOf Is v (seen (get_or avps i d)) → AreTypedOf Is (values ++ v ∷ []) (coded_front code avps (i + 1))
values_next Is code avps i d values v lt own h k =
    subst (AreTypedOf Is (values ++ v ∷ [])) (sym (coded_more code avps i d true lt own)) (values_more Is values (coded_front code avps i) v (seen (get_or avps i d)) h k)

pub values_other : {T : Type 0} (Is : List ℕ → T → Type 0) (code : ℕ) (avps : List AvpView) (i : ℕ) (d : AvpView) (values : List (TypedAvp T)) → i < length avps → is_coded code (seen (get_or avps i d)) ≡ false
    → AreTypedOf Is values (coded_front code avps i) → AreTypedOf Is values (coded_front code avps (i + 1))
values_other Is code avps i d values lt other h =
    subst (AreTypedOf Is values) (sym (coded_more code avps i d false lt other ∙ append-nil (coded_front code avps i))) h

pub short_at : (list : List Avp) (place : ℕ) (a : Avp) → Some a ≡ slice_get list place → All (λ x. length_of x < 2 ^ 24) list → length_of a < 2 ^ 24
short_at list place a e h =
    let at : slice_get list place ≡ Some a = sym e in
    rw (sym (get_or_from_slice_get list place a a at)) (h place a (slice_get_within list place a at))

flat_more : {X : Type 0} (g : ℕ → List X) (xs ys : List ℕ) → flat_map g (xs ++ ys) ≡ flat_map g xs ++ flat_map g ys
flat_more g [] ys = refl
flat_more g (x ∷ xs) ys = rw (flat_more g xs ys) (sym (append_assoc (g x) (flat_map g xs) (flat_map g ys)))

placed_next : (f : Avp → Avp) (list : List Avp) (places : List ℕ) (i : ℕ) (d : ℕ) → i < length places
    → map f (all_placed list (take i places)) ++ map f (option_to_list (slice_get list (get_or places i d))) ≡ map f (all_placed list (take (i + 1) places))
placed_next f list places i d lt =
    let e : i + 1 ≡ suc i = omega arith in
    let o = option_to_list (slice_get list (get_or places i d)) in
    rw (e, take-suc places i d lt, flat_more (λ p. option_to_list (slice_get list p)) (take i places) (get_or places i d ∷ []), append-nil o) (sym (map-append f (all_placed list (take i places)) o))

abbrev some_avp : Avp → Option Avp
some_avp a = Some a

-- the AVP at a place, and where there is none
pub seen_at : (avps : List AvpView) (i : ℕ) (v : AvpView) → i < length avps → v ≡ get_or avps i v → slice_get (seen_all avps) i ≡ Some (seen v)
seen_at avps i v lt e = slice_get-get_or (seen_all avps) i (seen v) (omega (arith, lt, length-map avps seen)) ∙ ap some_avp (get-seen avps i v (seen v) lt ∙ ap seen (sym e))

pub seen_past : (avps : List AvpView) (i : ℕ) → length avps ≤ i → slice_get (seen_all avps) i ≡ None
seen_past avps i le = slice_get_past (seen_all avps) i (omega (arith, le, length-map avps seen))

abbrev listed : (Avp → Avp) → List Avp → List ℕ → ℕ → List Avp
listed f list places i = map f (all_placed list (take i places))

pub placed_there : (f : Avp → Avp) (list : List Avp) (places : List ℕ) (i d : ℕ) (a : Avp) (rest : List Avp) → i < length places → slice_get list (get_or places i d) ≡ Some a → rest ≡ listed f list places i → rest ++ f a ∷ [] ≡ listed f list places (i + 1)
placed_there f list places i d a rest lt at e = ap (λ (l : List Avp). l ++ f a ∷ []) e ∙ rw at at (placed_next f list places i d lt)

pub placed_past : (f : Avp → Avp) (list : List Avp) (places : List ℕ) (i d : ℕ) (rest : List Avp) → i < length places → slice_get list (get_or places i d) ≡ None → rest ≡ listed f list places i → rest ≡ listed f list places (i + 1)
placed_past f list places i d rest lt at e = e ∙ sym (append-nil (listed f list places i)) ∙ rw at at (placed_next f list places i d lt)

-- what holds at `Ok` holds where there is no error
pub where_ok : {T E P : Type 0} (r : Result T E) → is_err r ≡ false → OnOk r P → P
where_ok (Ok x) e h = h
where_ok (Err x) e h = absurd cc
