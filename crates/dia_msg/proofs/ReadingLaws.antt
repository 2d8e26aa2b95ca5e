-- The steps of reading find the first fault, or the command.
use Rattle.std.proofs.Common.{◌≡◌, ◌||◌, ◌&&◌, ◌<◌, ◌^◌, ℕ, Bool, true, false, not, ◌==◌, cond, List, [], ◌∷◌, ◌++◌, length, drop, map, filter, Option, None, Some, Result, Ok, Err, All, refl, sym, ap, subst, ◌∙◌, inl}
use Rattle.std.specs.Prelude.{slice_get, nat_lt, is_some, IfOk, IfErr, IsErrOf}
use Rattle.std.specs.Option.{option_map, option_map_or}
use Rattle.std.proofs.lemmas.List.Elements.{All-head, All-tail}
use Rattle.dia_avp.specs.declared.avp.Avp.{Avp}
use Rattle.dia_avp.specs.Avps.{Avps}
use Rattle.dia_avp.specs.Reading.{avps_in}
use Rattle.dia_avp.specs.Encoding.{length_of}
use Rattle.dia_avp.specs.Look.{is_coded}
use Rattle.dia_avp.proofs.Bytes.{IsBytes, IsBytes-drop}
use Rattle.dia_avp.proofs.PartLaws.{avps_in-only, avps_in-all, avps_in-bytes, avps_in-short}
use Rattle.dia_dict.specs.declared.definition.Definition.{Definition}
use Rattle.dia_dict.specs.Dictionary.{known}
use Rattle.dia_tree.specs.declared.fault.MsgFault.{MsgFault}
use Rattle.base_codes.specs.declared.result_code.ResultCode.TheVariants.{UnableToComply}
use Rattle.dia_tree.specs.Faults.{fault, group_faults, missing_fault, IsGood, HasMessageFaults}
use Rattle.dia_tree.specs.Canonical.{canonical, IsCanonical, AreEach}
use Rattle.dia_tree.proofs.CanonicalRelation.{IsCanonical-takes, IsCanonical-again}
use Rattle.dia_tree.proofs.FaultLaws.{each_good, left_none}
use Rattle.dia_tree.proofs.RelationLaws.{HasMessageFaults-again}
use Rattle.dia_command.specs.declared.command.Command.{Command}
use Rattle.dia_command.specs.declared.header.Header.{Header}
use Rattle.dia_command.specs.declared.kind.CommandKind.{CommandKind}
use Rattle.dia_command.specs.declared.kind.CommandKind.TheVariants as kinds
use Rattle.dia_command.specs.declared.format.AvpFormat.{AvpFormat}
use Rattle.dia_command.specs.Header.{header_in}
use Rattle.dia_command.specs.Format.{kind_coded, format_of}
use Rattle.dia_command.specs.Command.{kind_of, rest_of, fields}
use Rattle.dia_msg.specs.declared.fault.MsgError.{MsgError}
use Rattle.dia_msg.specs.declared.fault.MsgError.TheVariants as msg_errors
use Rattle.dia_msg.specs.Taken.{missing, groups, untaken}
use Rattle.dia_msg.specs.Faults.{header_faults, is_credit, is_event, has_failed, answer_as, read_as, kind_read, format_read, has_services, instances, has_twice, missing_faults, services_faults, HasFaults}
use Rattle.dia_msg.specs.Reading.{AreFields, Means, IsReading, IsOnlyReading, UnlessNoMemory, MayNeedMemory}
use Rattle.dia_msg.specs.Source.{IsBuilt}
use Rattle.dia_msg.specs.Walk.{whole_avps, groups_in, later_faults, faults, IsErrorOf, IsDecided, IsOutcome}
use Rattle.dia_msg.specs.declared.sorting.Sorted.{Sorted}
use Rattle.dia_tree.specs.declared.fault.FaultView.{FaultView}
use Rattle.dia_tree.specs.View.{seen_fault}
use Rattle.dia_msg.proofs.SpreadLemmas.{untaken-All}
use Rattle.dia_command.proofs.SameLaws.{same}
use Rattle.dia_msg.proofs.FieldLaws.{same_fields}
use Rattle.dia_msg.proofs.RelationLaws.{HasFaults-takes, HasFaults-again, first_takes, first_again}

-- the kind as which AVPs are read, and its format
abbrev some_kind : CommandKind → Option CommandKind
some_kind k = Some k

pub kind_known : (header : Header) (list : List Avp) (command kind : CommandKind) → kind_coded header.command header.flags.request ≡ Some command → kind ≡ read_as command header.flags list → kind_read header list ≡ Some kind
kind_known header list command kind e is = ap (λ (o : Option CommandKind). option_map (λ k. read_as k header.flags list) o) e ∙ ap some_kind (sym is)

pub format_known : (header : Header) (list : List Avp) (kind : CommandKind) → kind_read header list ≡ Some kind → format_read header list ≡ format_of kind (is_event header list)
format_known header list kind e = ap (λ (o : Option CommandKind). option_map_or (λ k. format_of k (is_event header list)) o []) e

abbrev instances_by : Option CommandKind → List Avp → List Avp
instances_by o list = cond (option_map_or has_services o false) (filter (is_coded 456) list) []

first_front : (xs ys : List MsgFault) (f : MsgFault) → slice_get xs 0 ≡ Some f → slice_get (xs ++ ys) 0 ≡ Some f
first_front [] ys f e = absurd cc
first_front (x ∷ xs) ys f e = e

first_mapped : (g : AvpFormat → MsgFault) (formats : List AvpFormat) (f : AvpFormat) → slice_get formats 0 ≡ Some f → slice_get (map g formats) 0 ≡ Some (g f)
first_mapped g [] f e = absurd cc
first_mapped g (x ∷ formats) f e = let is : x ≡ f = cc in rw is refl

-- the first fault is one that is missing
pub later_missing : (d : List Definition) (header : Header) (list : List Avp) (kind : CommandKind) (f : AvpFormat) → kind_read header list ≡ Some kind
    → Some f ≡ slice_get (missing (format_of kind (is_event header list)) list) 0 → slice_get (later_faults d header list) 0 ≡ Some (missing_fault d f.code)
later_missing d header list kind f e first =
    first_front (missing_faults d (format_read header list) list) _ (missing_fault d f.code)
    (rw (format_known header list kind e) (first_mapped (λ (q : AvpFormat). missing_fault d q.code) (missing (format_of kind (is_event header list)) list) f (sym first)))

pub none_first : (formats : List AvpFormat) → None ≡ slice_get formats 0 → formats ≡ []
none_first [] e = refl
none_first (f ∷ formats) e = absurd cc

abbrev most : Bool → ℕ
most event = cond event 0 4

few_enough : (event : Bool) → nat_lt (most event) 0 ≡ false
few_enough true = refl
few_enough false = refl

abbrev is_faulty : Bool → List Avp → Bool
is_faulty event list = nat_lt (most event) (length (groups_in list)) || has_twice (groups_in list)

services_by : (s : Bool) (event b : Bool) (list : List Avp) → is_faulty event list ≡ b → services_faults event (groups_in (cond s list [])) ≡ cond (s && b) (fault UnableToComply None ∷ []) []
services_by true event true list e = rw e refl
services_by true event false list e = rw e refl
services_by false event b list e = rw (few_enough event) refl

services_are : (header : Header) (list : List Avp) (kind : CommandKind) (b : Bool) → kind_read header list ≡ Some kind → is_faulty (is_event header list) (filter (is_coded 456) list) ≡ b
    → services_faults (is_event header list) (groups_in (instances header list)) ≡ cond (has_services kind && b) (fault UnableToComply None ∷ []) []
services_are header list kind b e is =
    ap (λ (o : Option CommandKind). services_faults (is_event header list) (groups_in (instances_by o list))) e ∙ services_by (has_services kind) (is_event header list) b (filter (is_coded 456) list) is

-- none is missing: the faults are those of the services
later_services : (d : List Definition) (header : Header) (list : List Avp) (kind : CommandKind) (b : Bool) → kind_read header list ≡ Some kind → None ≡ slice_get (missing (format_of kind (is_event header list)) list) 0
    → is_faulty (is_event header list) (filter (is_coded 456) list) ≡ b → later_faults d header list ≡ cond (has_services kind && b) (fault UnableToComply None ∷ []) []
later_services d header list kind b e none is =
    let complete : missing (format_read header list) list ≡ [] = rw (format_known header list kind e) (none_first (missing (format_of kind (is_event header list)) list) none) in
    rw (services_are header list kind b e is) (ap (λ (fs : List AvpFormat). map (λ f. missing_fault d f.code) fs ++ cond (has_services kind && b) (fault UnableToComply None ∷ []) []) complete)

pub later_faulty : (d : List Definition) (header : Header) (list : List Avp) (kind : CommandKind) (b : Bool) → kind_read header list ≡ Some kind → None ≡ slice_get (missing (format_of kind (is_event header list)) list) 0
    → is_faulty (is_event header list) (filter (is_coded 456) list) ≡ b → (has_services kind && b) ≡ true → slice_get (later_faults d header list) 0 ≡ Some (fault UnableToComply None)
later_faulty d header list kind b e none is both = rw (later_services d header list kind b e none is, both) refl

pub later_none : (d : List Definition) (header : Header) (list : List Avp) (kind : CommandKind) (b : Bool) → kind_read header list ≡ Some kind → None ≡ slice_get (missing (format_of kind (is_event header list)) list) 0
    → is_faulty (is_event header list) (filter (is_coded 456) list) ≡ b → (has_services kind && b) ≡ false → later_faults d header list ≡ []
later_none d header list kind b e none is neither = rw (later_services d header list kind b e none is, neither) refl

-- an error that tells the first fault
pub outcome_error : (added : List Definition) (header : Header) (list : List Avp) (f : MsgFault) (e : MsgError) → slice_get (later_faults (known added) header list) 0 ≡ Some f → IsErrorOf f e → IsOutcome added header list (Err e)
outcome_error added header list f msg_errors.NoMemory first h = λ g other. let same : f ≡ g = cc in rw (← same) h
outcome_error added header list f (msg_errors.Fault g) first h = rw h first

pub outcome_memory : (added : List Definition) (header : Header) (list : List Avp) → later_faults (known added) header list ≡ [] → IsOutcome added header list (Err msg_errors.NoMemory)
outcome_memory added header list none = λ g other. let no : slice_get (later_faults (known added) header list) 0 ≡ None = rw none refl in absurd cc

-- each AVP in its canonical encoding
pub AreEach-takes : (d : List Definition) (n : ℕ) (list : List Avp) → All (λ a. IsBytes a.octets) list → AreEach (IsCanonical d n) list (map (canonical d n) list)
AreEach-takes d n [] h = refl
AreEach-takes d n (a ∷ list) h =
    (canonical d n a, map (canonical d n) list, IsCanonical-takes d n a (All-head (λ x. IsBytes x.octets) a list h), AreEach-takes d n list (All-tail (λ x. IsBytes x.octets) a list h), refl)

both : (x y : Avp) (xs ys : List Avp) → x ≡ y → xs ≡ ys → x ∷ xs ≡ y ∷ ys
both x y xs ys e f = rw (e, f) refl

pub AreEach-again : (d : List Definition) (n : ℕ) (list from : List Avp) → AreEach (IsCanonical d n) list from → from ≡ map (canonical d n) list
AreEach-again d n [] from h = h
AreEach-again d n (a ∷ list) from h = h.4 ∙ both _ _ _ _ (IsCanonical-again d n a h.0 h.2) (AreEach-again d n list h.1 h.3)

-- what the steps before found: the header and the AVPs have no fault
pub record Sound (d : List Definition) (octets : List ℕ) : Type 0 where
  pub header : header_faults octets ≡ []
  pub inner : group_faults d (is_event (header_in octets) (whole_avps octets)) 5 (drop 20 octets) ≡ []

pub faults_later : (d : List Definition) (octets : List ℕ) → Sound d octets → faults d octets ≡ later_faults d (header_in octets) (whole_avps octets)
faults_later d octets s = rw (s.header, s.inner) refl

-- the command that was built is what the octets mean
pub built_reading : (added : List Definition) (octets : List ℕ) (kind : CommandKind) (c : Command) → IsBytes octets → Sound (known added) octets → later_faults (known added) (header_in octets) (whole_avps octets) ≡ []
    → kind_read (header_in octets) (whole_avps octets) ≡ Some kind → IsBuilt added (format_read (header_in octets) (whole_avps octets)) (whole_avps octets) kind (header_in octets) c → IsReading (known added) octets (Ok c)
built_reading added octets kind c fits s none read built =
    let d = known added in
    let body = drop 20 octets in
    let bytes = IsBytes-drop 20 octets fits in
    let header = header_in octets in
    let list = whole_avps octets in (
      subst (λ (fs : List MsgFault). HasFaults d octets fs) (faults_later d octets s ∙ none) (HasFaults-takes d octets bytes),
      record {
        avps = list;
        whole = avps_in-all body bytes (left_none d (is_event header list) 4 body s.inner);
        kind = read ∙ ap some_kind (sym built.kind_is);
        header = built.header_is;
        fields_are = built.fields_are;
        rest = rw built.rest_is (AreEach-takes d 4 (untaken (format_read header list) list) (untaken-All (λ a. IsBytes a.octets) (format_read header list) list (avps_in-bytes body bytes)));
      },
    )

pub outcome_reading : (added : List Definition) (octets : List ℕ) (r : Result Command MsgError) → IsBytes octets → Sound (known added) octets → IsOutcome added (header_in octets) (whole_avps octets) r → UnlessNoMemory r (IsReading (known added) octets)
outcome_reading added octets (Ok c) fits s h = built_reading added octets h.1 c fits s h.0 h.2 h.3
outcome_reading added octets (Err msg_errors.NoMemory) fits s h = tt
outcome_reading added octets (Err (msg_errors.Fault g)) fits s h = first_takes (known added) octets g fits (rw (faults_later (known added) octets s) h)

pub outcome_may : (added : List Definition) (octets : List ℕ) (r : Result Command MsgError) → Sound (known added) octets → IsOutcome added (header_in octets) (whole_avps octets) r → r ≡ Err msg_errors.NoMemory → MayNeedMemory (known added) octets
outcome_may added octets (Ok c) s h e = absurd cc
outcome_may added octets (Err msg_errors.NoMemory) s h e = λ f k. h f (rw (← faults_later (known added) octets s) (first_again (known added) octets f k))
outcome_may added octets (Err (msg_errors.Fault g)) s h e = absurd cc

some_same : (x y : CommandKind) → Some x ≡ Some y → x ≡ y
some_same x y e = cc

some_fault : (x y : MsgFault) → Some x ≡ Some y → x ≡ y
some_fault x y e = cc

no_first : (fs : List MsgFault) → None ≡ slice_get fs 0 → fs ≡ []
no_first [] e = refl
no_first (f ∷ fs) e = absurd cc

-- there is one reading
same_command : (d : List Definition) (octets : List ℕ) (c b : Command) → Means d octets c → Means d octets b → c ≡ b
same_command d octets c b m n =
    let h = header_in octets in
    let p : avps_in (drop 20 octets) ≡ (m.avps, []) = avps_in-only (drop 20 octets) m.avps [] m.whole (inl refl) in
    let q : avps_in (drop 20 octets) ≡ (n.avps, []) = avps_in-only (drop 20 octets) n.avps [] n.whole (inl refl) in
    let one : n.avps ≡ m.avps = ap (λ (x : List Avp × List ℕ). x.0) (sym q ∙ p) in
    let kinds : kind_read h m.avps ≡ Some (kind_of b) = subst (λ (l : List Avp). kind_read h l ≡ Some (kind_of b)) one n.kind in
    let kind : kind_of c ≡ kind_of b = some_same (kind_of c) (kind_of b) (sym m.kind ∙ kinds) in
    let values = subst (λ (l : List Avp). AreFields d (fields b) (groups (format_read h l) l)) one n.fields_are in
    let rest = subst (λ (l : List Avp). AreEach (IsCanonical d 4) (untaken (format_read h l) l) (rest_of b)) one n.rest in
    same c b kind (m.header ∙ sym n.header) (same_fields d c b _ m.fields_are values kind) (AreEach-again d 4 _ (rest_of c) m.rest ∙ sym (AreEach-again d 4 _ (rest_of b) rest))

none_is_first : (fs : List MsgFault) (f : MsgFault) → [] ≡ fs → slice_get fs 0 ≡ Some f → ⊥
none_is_first [] f e k = cc
none_is_first (x ∷ fs) f e k = cc

abbrev meant : Command → Result Command MsgFault
meant c = Ok c

abbrev faulty : MsgFault → Result Command MsgFault
faulty f = Err f

one_reading : (d : List Definition) (octets : List ℕ) (x y : Result Command MsgFault) → IsReading d octets x → IsReading d octets y → y ≡ x
one_reading d octets (Ok c) (Ok b) h k = ap meant (same_command d octets b c k.1 h.1)
one_reading d octets (Ok c) (Err g) h k = absurd (none_is_first (faults d octets) g (HasFaults-again d octets [] h.0) (first_again d octets g k))
one_reading d octets (Err f) (Ok b) h k = absurd (none_is_first (faults d octets) f (HasFaults-again d octets [] k.0) (first_again d octets f h))
one_reading d octets (Err f) (Err g) h k =
    let e : f ≡ g = some_fault f g (sym (first_again d octets f h) ∙ first_again d octets g k) in
    ap faulty (sym e)

pub only_reading : (d : List Definition) (octets : List ℕ) (r : Result Command MsgError) → UnlessNoMemory r (IsReading d octets) → UnlessNoMemory r (IsOnlyReading d octets)
only_reading d octets (Ok c) h = λ other k. one_reading d octets (Ok c) other h k
only_reading d octets (Err msg_errors.NoMemory) h = tt
only_reading d octets (Err (msg_errors.Fault f)) h = λ other k. one_reading d octets (Err f) other h k

-- a fault of the header, or of the AVPs, is the first
first_after : (xs ys : List MsgFault) (o : Option MsgFault) → xs ≡ [] → slice_get ys 0 ≡ o → slice_get (xs ++ ys) 0 ≡ o
first_after [] ys o none e = e
first_after (x ∷ xs) ys o none e = absurd cc

pub header_first : (d : List Definition) (octets : List ℕ) (f : MsgFault) → IsBytes octets → slice_get (header_faults octets) 0 ≡ Some f → IsReading d octets (Err f)
header_first d octets f fits e = first_takes d octets f fits (first_front (header_faults octets) _ f e)

pub inner_first : (d : List Definition) (octets : List ℕ) (fs : List MsgFault) (f : MsgFault) → IsBytes octets → header_faults octets ≡ [] → HasMessageFaults d (is_credit (header_in octets)) (drop 20 octets) fs → Some f ≡ slice_get fs 0 → IsReading d octets (Err f)
inner_first d octets fs f fits none h first =
    let is : fs ≡ group_faults d (is_event (header_in octets) (whole_avps octets)) 5 (drop 20 octets) = HasMessageFaults-again d (is_credit (header_in octets)) (drop 20 octets) fs h in
    first_takes d octets f fits (first_after (header_faults octets) _ (Some f) none (first_front (group_faults d (is_event (header_in octets) (whole_avps octets)) 5 (drop 20 octets)) _ f (rw (← is) (sym first))))

pub inner_none : (d : List Definition) (octets : List ℕ) (fs : List MsgFault) → HasMessageFaults d (is_credit (header_in octets)) (drop 20 octets) fs → None ≡ slice_get fs 0
    → group_faults d (is_event (header_in octets) (whole_avps octets)) 5 (drop 20 octets) ≡ []
inner_none d octets fs h none = sym (HasMessageFaults-again d (is_credit (header_in octets)) (drop 20 octets) fs h) ∙ no_first fs none

pub error_reading : (d : List Definition) (octets : List ℕ) (f : MsgFault) (e : MsgError) → IsErrorOf f e → IsReading d octets (Err f) → UnlessNoMemory (Err e) (IsReading d octets)
error_reading d octets f msg_errors.NoMemory h r = tt
error_reading d octets f (msg_errors.Fault g) h r = subst (λ (x : MsgFault). IsReading d octets (Err x)) (sym h) r

pub error_memory : (d : List Definition) (octets : List ℕ) (f : MsgFault) (e : MsgError) → IsErrorOf f e → IsReading d octets (Err f) → e ≡ msg_errors.NoMemory → MayNeedMemory d octets
error_memory d octets f e h r out = λ g k.
    let is : f ≡ g = some_fault f g (sym (first_again d octets f r) ∙ first_again d octets g k) in
    rw (← is) (subst (λ (x : MsgError). IsErrorOf f x) out h)

-- an answer that is no ErrorAnswer
pub kept_answer : (kind : CommandKind) (list : List Avp) (error : Bool) → error ≡ false → has_failed list ≡ false → kind ≡ answer_as kind error list
kept_answer kind list error e h = rw (e, h) refl

complete_by : (failed : Bool) (kind : CommandKind) (gone : List AvpFormat) → gone ≡ [] → kind ≡ cond (failed && not (length gone == 0)) kinds.ErrorAnswer kind
complete_by true kind gone e = rw e refl
complete_by false kind gone e = refl

pub whole_answer : (kind : CommandKind) (list : List Avp) (error : Bool) (o : Option AvpFormat) → error ≡ false → o ≡ slice_get (missing (format_of kind false) list) 0 → is_some o ≡ false → kind ≡ answer_as kind error list
whole_answer kind list error None e first none = rw e (complete_by (has_failed list) kind (missing (format_of kind false) list) (none_first _ first))
whole_answer kind list error (Some f) e first none = absurd cc

pub outcome_fault : (added : List Definition) (header : Header) (list : List Avp) (f : MsgFault) (e : MsgError) → slice_get (later_faults (known added) header list) 0 ≡ Some f → e ≡ msg_errors.Fault f → IsOutcome added header list (Err e)
outcome_fault added header list f e first is = rw is first

pub both_true : (a b : Bool) → a ≡ true → b ≡ true → (a && b) ≡ true
both_true a b e f = rw (e, f) refl

pub first_false : (a b : Bool) → a ≡ false → (a && b) ≡ false
first_false a b e = rw e refl

pub second_false : (a b : Bool) → b ≡ false → (a && b) ≡ false
second_false true b e = e
second_false false b e = refl

pub fault_reading : (d : List Definition) (octets : List ℕ) (f : MsgFault) (e : MsgError) → e ≡ msg_errors.Fault f → IsReading d octets (Err f) → UnlessNoMemory (Err e) (IsReading d octets)
fault_reading d octets f e is h = rw is h

-- the AVPs that were surveyed are those of the message, and none has a fault
pub surveyed : (octets : List ℕ) (list : List Avp) → Avps (drop 20 octets) list → list ≡ whole_avps octets
surveyed octets list h =
    let parts : avps_in (drop 20 octets) ≡ (list, []) = avps_in-only (drop 20 octets) list [] h (inl refl) in
    sym (ap (λ (p : List Avp × List ℕ). p.0) parts)

pub good_avps : (d : List Definition) (octets : List ℕ) (h : Header) (list : List Avp) → h ≡ header_in octets → list ≡ whole_avps octets → group_faults d (is_event (header_in octets) (whole_avps octets)) 5 (drop 20 octets) ≡ []
    → All (IsGood d (is_event h list) 4) list
good_avps d octets h list e f none = rw (e, f) (each_good d (is_event (header_in octets) (whole_avps octets)) 4 (drop 20 octets) none)

pub short_avps : (octets : List ℕ) (list : List Avp) → IsBytes octets → list ≡ whole_avps octets → All (λ a. length_of a < 2 ^ 24) list
short_avps octets list fits f = rw f (avps_in-short (drop 20 octets) (IsBytes-drop 20 octets fits))

pub outcome_as : (added : List Definition) (octets : List ℕ) (h : Header) (list : List Avp) (r : Result Command MsgError) → h ≡ header_in octets → list ≡ whole_avps octets → IsOutcome added h list r → IsOutcome added (header_in octets) (whole_avps octets) r
outcome_as added octets h list r e f o = subst (λ (l : List Avp). IsOutcome added (header_in octets) l r) f (subst (λ (x : Header). IsOutcome added x list r) e o)

pub outcome_made : (added : List Definition) (header : Header) (list : List Avp) (k : CommandKind) (r : Result Command MsgError) → later_faults (known added) header list ≡ [] → kind_read header list ≡ Some k
    → IfOk r (IsBuilt added (format_read header list) list k header) → IfErr r (λ e. e ≡ msg_errors.NoMemory) → IsOutcome added header list r
outcome_made added header list k (Ok c) none kind built no_memory = (none, k, kind, built)
outcome_made added header list k (Err e) none kind built no_memory = rw no_memory (outcome_memory added header list none)

pub ran_out : (r : Result Command MsgError) → IsErrOf r msg_errors.NoMemory → r ≡ Err msg_errors.NoMemory
ran_out (Ok c) h = absurd cc
ran_out (Err e) h = let is : e ≡ msg_errors.NoMemory = cc in rw is refl

-- no fault was found up to here
pub sound_as : (d : List Definition) (octets : List ℕ) (fs : List MsgFault) (first : Option FaultView) → header_faults octets ≡ [] → HasMessageFaults d (is_credit (header_in octets)) (drop 20 octets) fs
    → option_map seen_fault first ≡ slice_get fs 0 → first ≡ None → Sound d octets
sound_as d octets fs first header h is none = record {
  header = header;
  inner = inner_none d octets fs h (ap (λ (o : Option FaultView). option_map seen_fault o) (sym none) ∙ is);
}

-- the command that is made of AVPs that were sorted
pub decided_made : (added : List Definition) (header : Header) (list : List Avp) (s : Sorted) (event : Bool) (kind : CommandKind) (c : Command) → event ≡ is_event header list → IsDecided (known added) header list s kind
    → IsBuilt added (format_of kind event) list kind header c → IsOutcome added header list (Ok c)
decided_made added header list s event kind c e decided built = (
  decided.clean,
  kind,
  decided.kind,
  subst (λ (fs : List AvpFormat). IsBuilt added fs list kind header c) (sym (format_known header list kind decided.kind)) (subst (λ (b : Bool). IsBuilt added (format_of kind b) list kind header c) e built),
)
