-- Fields that were read from AVPs are written as these AVPs, in their canonical encoding.
use Rattle.std.proofs.Common.{◌≡◌, ◌==◌, ◌<◌, ℕ, Bool, true, false, cond, List, [], ◌∷◌, ◌++◌, length, map, get_or, Option, None, Some, All, refl, sym, ap, ◌∙◌, arith, take_all}
use Rattle.std.specs.List.{flat_map}
use Rattle.std.specs.Option.{option_map, option_and_then}
use Rattle.std.proofs.lemmas.Bool.{eqb-true}
use Rattle.std.proofs.lemmas.List.Elements.{All-head, All-tail}
use Rattle.byteorder.specs.Endian.{big_bytes, big_number}
use Rattle.dia_avp.specs.declared.avp.Avp.{Avp}
use Rattle.dia_avp.specs.Encoding.{encoding}
use Rattle.dia_avp.specs.Look.{number_in}
use Rattle.dia_avp.proofs.Bytes.{big_bytes_4}
use Rattle.dia_dict.specs.declared.definition.Definition.{Definition}
use Rattle.dia_dict.specs.Dictionary.{definition_of}
use Rattle.dia_tree.specs.Kind.{is_grouped}
use Rattle.dia_tree.specs.Canonical.{canonical}
use Rattle.dia_tree.proofs.CanonicalLaws.{canonical_head, canonical-plain, canonical-group}
use Rattle.dia_tree.proofs.CanonicalRelation.{IsCanonical-again, AreCanonical-again}
use Rattle.dia_command.specs.declared.typed.TypedAvp.{TypedAvp}
use Rattle.dia_command.specs.declared.value.RequestType.{RequestType}
use Rattle.dia_command.specs.declared.value.RequestType.TheVariants.{Initial, Update, Termination, Event}
use Rattle.dia_command.specs.declared.value.RequestedAction.{RequestedAction}
use Rattle.dia_command.specs.declared.value.RequestedAction.TheVariants.{DirectDebiting, RefundAccount, CheckBalance, PriceEnquiry, Other}
use Rattle.dia_command.specs.Value.{type_number, type_coded, action_number, action_coded}
use Rattle.dia_command.specs.Field.{Field, Octets, Numbers, Types, Actions, Groups, avp_of, avps_coded, IsOctets, IsNumber, IsType, IsAction, IsGroup, IsTypedOf, AreTypedOf}
use Rattle.dia_command.specs.Laws.{IsRead, IsReadOf, WrittenAgain}

some_is : {T : Type 0} → (x y : T) → Some x ≡ Some y → x ≡ y
some_is x y e = cc

-- a number coded as a type has that number
type_by : (n : ℕ) (t : RequestType) (a b c d : Bool) → (n == 1) ≡ a → (n == 2) ≡ b → (n == 3) ≡ c → (n == 4) ≡ d → cond a (Some Initial) (cond b (Some Update) (cond c (Some Termination) (cond d (Some Event) None))) ≡ Some t → type_number t ≡ n
type_by n t true b c d f g h k e = ap type_number (sym (some_is Initial t e)) ∙ sym (eqb-true n 1 f)
type_by n t false true c d f g h k e = ap type_number (sym (some_is Update t e)) ∙ sym (eqb-true n 2 g)
type_by n t false false true d f g h k e = ap type_number (sym (some_is Termination t e)) ∙ sym (eqb-true n 3 h)
type_by n t false false false true f g h k e = ap type_number (sym (some_is Event t e)) ∙ sym (eqb-true n 4 k)
type_by n t false false false false f g h k e = absurd cc

type_again : (n : ℕ) (t : RequestType) → type_coded n ≡ Some t → type_number t ≡ n
unfolding type_coded
type_again n t e = type_by n t (n == 1) (n == 2) (n == 3) (n == 4) refl refl refl refl e

-- a number coded as an action too
action_by : (n : ℕ) (a b c d : Bool) → (n == 0) ≡ a → (n == 1) ≡ b → (n == 2) ≡ c → (n == 3) ≡ d → action_number (cond a DirectDebiting (cond b RefundAccount (cond c CheckBalance (cond d PriceEnquiry (Other n))))) ≡ n
action_by n true b c d f g h k = sym (eqb-true n 0 f)
action_by n false true c d f g h k = sym (eqb-true n 1 g)
action_by n false false true d f g h k = sym (eqb-true n 2 h)
action_by n false false false true f g h k = sym (eqb-true n 3 k)
action_by n false false false false f g h k = refl

action_again : (n : ℕ) → action_number (action_coded n) ≡ n
unfolding action_coded
action_again n = action_by n (n == 0) (n == 1) (n == 2) (n == 3) refl refl refl refl

-- octets that are a number are that number's octets
number_by : (octets : List ℕ) (b : Bool) (n : ℕ) → (length octets == 4) ≡ b → cond b (Some (big_number 4 octets)) None ≡ Some n → ((i : ℕ) → get_or octets i 0 < 256) → big_bytes 4 n ≡ octets
number_by octets true n f e fits =
    let four : length octets ≡ 4 = eqb-true (length octets) 4 f in
    rw (← some_is (big_number 4 octets) n e) (big_bytes_4 octets (omega arith) fits ∙ take_all 4 octets (omega arith))
number_by octets false n f e fits = absurd cc

abbrev Writes_again : {T : Type 0} → (List ℕ → T → Type 0) → (T → List ℕ) → Type 0
Writes_again {T} Is data_of = (octets : List ℕ) (value : T) → Is octets value → ((i : ℕ) → get_or octets i 0 < 256) → data_of value ≡ octets

number_data : Writes_again IsNumber (big_bytes 4)
number_data octets n e fits = number_by octets (length octets == 4) n refl e fits

type_from : (octets : List ℕ) (x : Option ℕ) (t : RequestType) → number_in 4 octets ≡ x → option_and_then type_coded x ≡ Some t → ((i : ℕ) → get_or octets i 0 < 256) → big_bytes 4 (type_number t) ≡ octets
type_from octets None t f e fits = absurd cc
type_from octets (Some n) t f e fits = rw (type_again n t e) (number_data octets n f fits)

type_data : Writes_again IsType (λ t. big_bytes 4 (type_number t))
type_data octets t e fits = type_from octets (number_in 4 octets) t refl e fits

action_from : (octets : List ℕ) (x : Option ℕ) (a : RequestedAction) → number_in 4 octets ≡ x → option_map action_coded x ≡ Some a → ((i : ℕ) → get_or octets i 0 < 256) → big_bytes 4 (action_number a) ≡ octets
action_from octets None a f e fits = absurd cc
action_from octets (Some n) a f e fits = rw (← some_is (action_coded n) a e) (rw (action_again n) (number_data octets n f fits))

action_data : Writes_again IsAction (λ a. big_bytes 4 (action_number a))
action_data octets a e fits = action_from octets (number_in 4 octets) a refl e fits

octets_data : Writes_again IsOctets (λ octets. octets)
octets_data octets value e fits = e

avp_made : ℕ → Option ℕ → Bool → Bool → List ℕ → Avp
avp_made code vendor m p octets = record { code = code; vendor = vendor; mandatory = m; protected = p; octets = octets }

same_avp : (code : ℕ) (m p : Bool) (octets : List ℕ) (a : Avp) → code ≡ a.code → None ≡ a.vendor → m ≡ a.mandatory → p ≡ a.protected → octets ≡ a.octets → avp_made code None m p octets ≡ a
unfolding avp_made
same_avp code m p octets a c v f g o = rw (c, v, f, g, o) refl

definition_is : (d : List Definition) (code : ℕ) (a : Avp) → IsRead code a → definition_of d a.code a.vendor ≡ definition_of d code None
definition_is d code a r =
    ap (λ (n : ℕ). definition_of d n a.vendor) r.code_is ∙ ap (λ (v : Option ℕ). definition_of d code v) r.no_vendor

abbrev Each : {T : Type 0} → List Definition → ℕ → (List ℕ → T → Type 0) → (T → List ℕ) → Type 0
Each {T} d code Is data_of = (a : Avp) (v : TypedAvp T) → IsRead code a → IsTypedOf Is v a → avp_of data_of code v ≡ canonical d 4 a

plain_each : {T : Type 0} (d : List Definition) (code : ℕ) (Is : List ℕ → T → Type 0) (data_of : T → List ℕ) → is_grouped (definition_of d code None) ≡ false → Writes_again Is data_of → Each d code Is data_of
unfolding avp_made
plain_each d code Is data_of plain again a v r h =
    same_avp code v.mandatory v.protected (data_of v.value) a (sym r.code_is) (sym r.no_vendor) h.mandatory h.protected (again a.octets v.value h.value r.octets_are)
    ∙ sym (canonical-plain d 4 a (ap is_grouped (definition_is d code a r) ∙ plain))

group_each : (d : List Definition) (code : ℕ) → is_grouped (definition_of d code None) ≡ true → Each d code (IsGroup d) encoding
unfolding avp_made
group_each d code group a v r h =
    let s = canonical_head d 4 a in
    same_avp code v.mandatory v.protected (encoding v.value) (canonical d 4 a) (sym (s.code ∙ r.code_is)) (sym (s.vendor ∙ r.no_vendor)) (h.mandatory ∙ sym s.mandatory) (h.protected ∙ sym s.protected)
    (ap encoding (AreCanonical-again d 3 a.octets v.value (IsCanonical-again d 3) h.value)
    ∙ sym (ap (λ (b : Avp). b.octets) (canonical-group d 3 a (ap is_grouped (definition_is d code a r) ∙ group))))

values_again : {T : Type 0} (d : List Definition) (code : ℕ) (Is : List ℕ → T → Type 0) (data_of : T → List ℕ) → Each d code Is data_of → (values : List (TypedAvp T)) (list : List Avp) → AreTypedOf Is values list → All (IsRead code) list → map (avp_of data_of code) values ≡ map (canonical d 4) list
values_again d code Is data_of each [] [] h all = refl
values_again d code Is data_of each [] (a ∷ list) h all = absurd h
values_again d code Is data_of each (v ∷ values) [] h all = absurd h
values_again d code Is data_of each (v ∷ values) (a ∷ list) h all =
    rw (each a v (All-head (IsRead code) a list all) h.0)
    (ap (λ (l : List Avp). canonical d 4 a ∷ l) (values_again d code Is data_of each values list h.1 (All-tail (IsRead code) a list all)))

-- the AVPs of a field that was read
pub field_again : (d : List Definition) (code : ℕ) (field : Field) (list : List Avp) → IsReadOf d code field list → avps_coded code field ≡ map (canonical d 4) list
field_again d code (Octets values) list r = values_again d code IsOctets (λ octets. octets) (plain_each d code IsOctets (λ octets. octets) r.kind octets_data) values list r.value r.each
field_again d code (Numbers values) list r = values_again d code IsNumber (big_bytes 4) (plain_each d code IsNumber (big_bytes 4) r.kind number_data) values list r.value r.each
field_again d code (Types values) list r = values_again d code IsType (λ t. big_bytes 4 (type_number t)) (plain_each d code IsType (λ t. big_bytes 4 (type_number t)) r.kind type_data) values list r.value r.each
field_again d code (Actions values) list r = values_again d code IsAction (λ a. big_bytes 4 (action_number a)) (plain_each d code IsAction (λ a. big_bytes 4 (action_number a)) r.kind action_data) values list r.value r.each
field_again d code (Groups values) list r = values_again d code (IsGroup d) encoding (group_each d code r.kind) values list r.value r.each

map-joined : (f : Avp → Avp) (xs ys : List Avp) → map f (xs ++ ys) ≡ map f xs ++ map f ys
map-joined f [] ys = refl
map-joined f (x ∷ xs) ys = ap (λ (l : List Avp). f x ∷ l) (map-joined f xs ys)

pub written_again : WrittenAgain
written_again d [] [] [] r = refl
written_again d (f ∷ format) (field ∷ fields) (list ∷ lists) r =
    rw (field_again d f.code field list r.0, written_again d format fields lists r.1) (sym (map-joined (canonical d 4) list (flat_map (λ list. list) lists)))
written_again d [] [] (list ∷ lists) r = absurd r
written_again d [] (field ∷ fields) lists r = absurd r
written_again d (f ∷ format) [] lists r = absurd r
written_again d (f ∷ format) (field ∷ fields) [] r = absurd r
