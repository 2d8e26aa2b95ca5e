-- What octets are read as is what the function says that they mean.
use Rattle.std.proofs.Common.{◌≡◌, ℕ, List, [], ◌∷◌, map, drop, Option, None, Some, Result, Ok, Err, refl, sym, ap, subst, ◌∙◌, inl}
use Rattle.std.specs.Prelude.{slice_get, unwrap_or}
use Rattle.std.specs.Option.{option_and_then}
use Rattle.dia_avp.specs.declared.avp.Avp.{Avp}
use Rattle.dia_avp.specs.Reading.{avps_in}
use Rattle.dia_avp.specs.Look.{number_in}
use Rattle.dia_avp.proofs.PartLaws.{avps_in-only}
use Rattle.dia_dict.specs.declared.definition.Definition.{Definition}
use Rattle.dia_dict.specs.Dictionary.{known}
use Rattle.dia_tree.specs.Canonical.{canonical, IsCanonical, AreEach}
use Rattle.dia_tree.specs.declared.fault.MsgFault.{MsgFault}
use Rattle.dia_tree.proofs.CanonicalRelation.{IsCanonical-again, AreCanonical-again}
use Rattle.dia_command.specs.declared.command.Command.{Command}
use Rattle.dia_command.specs.declared.header.Header.{Header}
use Rattle.dia_command.specs.declared.kind.CommandKind.{CommandKind}
use Rattle.dia_command.specs.declared.typed.TypedAvp.{TypedAvp}
use Rattle.dia_command.specs.declared.value.RequestType.TheVariants.{Initial}
use Rattle.dia_command.specs.declared.value.RequestedAction.TheVariants.{DirectDebiting}
use Rattle.dia_command.specs.Command.{kind_of, header_of, rest_of, fields}
use Rattle.dia_command.specs.Field.{Field, Octets, Numbers, Types, Actions, Groups, type_in, action_in, IsOctets, IsNumber, IsType, IsAction, IsGroup, IsTypedOf, AreTypedOf, IsFieldOf}
use Rattle.dia_command.specs.Forms.{Form, form_of, forms, command_of}
use Rattle.dia_command.specs.Header.{header_in}
use Rattle.dia_command.proofs.SameLaws.{command_again, forms_are}
use Rattle.dia_msg.specs.Faults.{kind_read, format_read}
use Rattle.dia_msg.specs.declared.fault.MsgError.{MsgError}
use Rattle.dia_msg.specs.declared.fault.MsgError.TheVariants as msg_errors
use Rattle.dia_msg.specs.Reading.{AreFields, Means, IsReading, UnlessNoMemory}
use Rattle.dia_msg.specs.Taken.{groups, untaken}
use Rattle.dia_msg.specs.Walk.{whole_avps, faults}
use Rattle.dia_msg.proofs.ReadingLaws.{AreEach-again}
use Rattle.dia_msg.proofs.RelationLaws.{HasFaults-again, first_again}
use Rattle.msg_meaning.specs.Meaning.{typed_by, group_in, field_of, fields_of, command_by, command_in, answer_by, meaning}

-- data have one value
abbrev Gives : {T : Type 0} → (List ℕ → T → Type 0) → (List ℕ → T) → Type 0
Gives {T} Is value = (octets : List ℕ) (x : T) → Is octets x → x ≡ value octets

unwrapped : {T : Type 0} (o : Option T) (x other : T) → o ≡ Some x → x ≡ unwrap_or o other
unwrapped o x other e = rw e refl

gives_octets : Gives IsOctets (λ octets. octets)
gives_octets octets x h = h

gives_number : Gives IsNumber (λ octets. unwrap_or (number_in 4 octets) 0)
gives_number octets x h = unwrapped (number_in 4 octets) x 0 h

gives_type : Gives IsType (λ octets. unwrap_or (type_in octets) Initial)
gives_type octets x h = unwrapped (type_in octets) x Initial h

gives_action : Gives IsAction (λ octets. unwrap_or (action_in octets) DirectDebiting)
gives_action octets x h = unwrapped (action_in octets) x DirectDebiting h

gives_group : (d : List Definition) → Gives (IsGroup d) (group_in d)
gives_group d octets x h = AreCanonical-again d 3 octets x (IsCanonical-again d 3) h

abbrev typed : {T : Type 0} → TypedAvp T → T → Avp → TypedAvp T
typed v x a = record { mandatory = a.mandatory; protected = a.protected; value = x }

value_is : {T : Type 0} (Is : List ℕ → T → Type 0) (value : List ℕ → T) (v : TypedAvp T) (a : Avp) → Gives Is value → IsTypedOf Is v a → v ≡ typed_by value a
value_is Is value v a gives h = rw (← h.mandatory, ← h.protected, ← gives a.octets v.value h.value) refl

values_are : {T : Type 0} (Is : List ℕ → T → Type 0) (value : List ℕ → T) (vs : List (TypedAvp T)) (list : List Avp) → Gives Is value → AreTypedOf Is vs list → vs ≡ map (typed_by value) list
values_are Is value [] [] gives h = refl
values_are Is value [] (a ∷ list) gives h = absurd h
values_are Is value (v ∷ vs) [] gives h = absurd h
values_are Is value (v ∷ vs) (a ∷ list) gives h = rw (value_is Is value v a gives h.0, values_are Is value vs list gives h.1) refl

field_is : (d : List Definition) (field : Field) (list : List Avp) → IsFieldOf d field list → field ≡ field_of d (form_of field) list
field_is d (Octets vs) list h = ap (λ l. Octets l) (values_are IsOctets (λ octets. octets) vs list gives_octets h)
field_is d (Numbers vs) list h = ap (λ l. Numbers l) (values_are IsNumber (λ octets. unwrap_or (number_in 4 octets) 0) vs list gives_number h)
field_is d (Types vs) list h = ap (λ l. Types l) (values_are IsType (λ octets. unwrap_or (type_in octets) Initial) vs list gives_type h)
field_is d (Actions vs) list h = ap (λ l. Actions l) (values_are IsAction (λ octets. unwrap_or (action_in octets) DirectDebiting) vs list gives_action h)
field_is d (Groups vs) list h = ap (λ l. Groups l) (values_are (IsGroup d) (group_in d) vs list (gives_group d) h)

both : (x y : Field) (xs ys : List Field) → x ≡ y → xs ≡ ys → x ∷ xs ≡ y ∷ ys
both x y xs ys e f = rw (e, f) refl

fields_are : (d : List Definition) (list : List Field) (lists : List (List Avp)) → AreFields d list lists → list ≡ fields_of d (map form_of list) lists
fields_are d [] [] h = refl
fields_are d [] (a ∷ lists) h = absurd h
fields_are d (x ∷ xs) [] h = absurd h
fields_are d (x ∷ xs) (a ∷ lists) h = both x _ xs _ (field_is d x a h.0) (fields_are d xs lists h.1)

-- the command that AVPs mean as a kind
command_is : (d : List Definition) (header : Header) (list : List Avp) (c : Command) → header_of c ≡ header → AreFields d (fields c) (groups (format_read header list) list) → rest_of c ≡ map (canonical d 4) (untaken (format_read header list) list)
    → command_by d header list (kind_of c) ≡ Some c
command_is d header list c header_is values rest =
    let read : fields c ≡ fields_of d (forms (kind_of c)) (groups (format_read header list) list) =
    fields_are d (fields c) (groups (format_read header list) list) values ∙ ap (λ (f : List Form). fields_of d f (groups (format_read header list) list)) (forms_are c) in
    ap (λ (x : List Field). command_of (kind_of c) header x (map (canonical d 4) (untaken (format_read header list) list))) (sym read)
    ∙ ap (λ (x : List Avp). command_of (kind_of c) header (fields c) x) (sym rest)
    ∙ ap (λ (x : Header). command_of (kind_of c) x (fields c) (rest_of c)) (sym header_is)
    ∙ command_again c

command_meant : (d : List Definition) (octets : List ℕ) (c : Command) → Means d octets c → command_in d octets ≡ Some c
command_meant d octets c m =
    let h = header_in octets in
    let parts : avps_in (drop 20 octets) ≡ (m.avps, []) = avps_in-only (drop 20 octets) m.avps [] m.whole (inl refl) in
    let one : m.avps ≡ whole_avps octets = sym (ap (λ (x : List Avp × List ℕ). x.0) parts) in
    let kind : kind_read h (whole_avps octets) ≡ Some (kind_of c) = subst (λ (l : List Avp). kind_read h l ≡ Some (kind_of c)) one m.kind in
    let values : AreFields d (fields c) (groups (format_read h (whole_avps octets)) (whole_avps octets)) = subst (λ (l : List Avp). AreFields d (fields c) (groups (format_read h l) l)) one m.fields_are in
    let each : AreEach (IsCanonical d 4) (untaken (format_read h (whole_avps octets)) (whole_avps octets)) (rest_of c) =
    subst (λ (l : List Avp). AreEach (IsCanonical d 4) (untaken (format_read h l) l) (rest_of c)) one m.rest in
    ap (λ (k : Option CommandKind). option_and_then (command_by d h (whole_avps octets)) k) kind
    ∙ command_is d h (whole_avps octets) c m.header values (AreEach-again d 4 _ (rest_of c) each)

-- what octets are read as is their meaning
pub meaning_is : (added : List Definition) (octets : List ℕ) (r : Result Command MsgFault) → IsReading (known added) octets r → r ≡ meaning added octets
unfolding meaning
meaning_is added octets (Ok c) h =
    let d = known added in
    let none : slice_get (faults d octets) 0 ≡ None = ap (λ (fs : List MsgFault). slice_get fs 0) (sym (HasFaults-again d octets [] h.0)) in
    sym (ap (λ (f : Option MsgFault). answer_by f (command_in d octets)) none ∙ ap (λ (c : Option Command). answer_by None c) (command_meant d octets c h.1))
meaning_is added octets (Err f) h =
    let d = known added in
    sym (ap (λ (f : Option MsgFault). answer_by f (command_in d octets)) (first_again d octets f h))

-- the fault that a call told
pub fault_meant : (added : List Definition) (octets : List ℕ) (r : Result Command MsgError) (e : MsgError) (f : MsgFault) → UnlessNoMemory r (IsReading (known added) octets) → r ≡ Err e → e ≡ msg_errors.Fault f → Err f ≡ meaning added octets
fault_meant added octets r e f h is told =
    let k : UnlessNoMemory (Err (msg_errors.Fault f)) (IsReading (known added) octets) = rw (is, told) at h in
    meaning_is added octets (Err f) k
