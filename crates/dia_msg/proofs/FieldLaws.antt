-- The fields that are read from AVPs are one list.
use Rattle.std.proofs.Common.{◌≡◌, ℕ, Bool, List, [], ◌∷◌, map, Some, refl, sym, ap, ◌∙◌}
use Rattle.dia_avp.specs.declared.avp.Avp.{Avp}
use Rattle.dia_dict.specs.declared.definition.Definition.{Definition}
use Rattle.dia_tree.proofs.CanonicalRelation.{IsCanonical-again, AreCanonical-again}
use Rattle.dia_command.specs.declared.command.Command.{Command}
use Rattle.dia_command.specs.declared.kind.CommandKind.{CommandKind}
use Rattle.dia_command.specs.declared.kind.CommandKind.TheVariants as kinds
use Rattle.dia_command.specs.declared.typed.TypedAvp.{TypedAvp}
use Rattle.dia_command.specs.Field.{Field, Octets, Numbers, Types, Actions, Groups, IsOctets, IsNumber, IsType, IsAction, IsGroup, IsTypedOf, AreTypedOf, IsFieldOf}
use Rattle.dia_command.specs.Command.{kind_of, fields}
use Rattle.dia_command.specs.Forms.{form_of, forms}
use Rattle.dia_command.proofs.SameLaws.{forms_are}
use Rattle.dia_msg.specs.Reading.{AreFields}

some_is : {T : Type 0} (x y : T) → Some x ≡ Some y → x ≡ y
some_is x y e = cc

-- data are at most one value
abbrev One : {T : Type 0} → (List ℕ → T → Type 0) → Type 0
One {T} Is = (octets : List ℕ) (x y : T) → Is octets x → Is octets y → x ≡ y

one_octets : One IsOctets
one_octets octets x y h k = h ∙ sym k

one_number : One IsNumber
one_number octets x y h k = some_is x y (sym h ∙ k)

one_type : One IsType
one_type octets x y h k = some_is x y (sym h ∙ k)

one_action : One IsAction
one_action octets x y h k = some_is x y (sym h ∙ k)

one_group : (d : List Definition) → One (IsGroup d)
one_group d octets x y h k = AreCanonical-again d 3 octets x (IsCanonical-again d 3) h ∙ sym (AreCanonical-again d 3 octets y (IsCanonical-again d 3) k)

typed : {T : Type 0} → Bool → Bool → T → TypedAvp T
typed m p x = record { mandatory = m; protected = p; value = x }

same_typed : {T : Type 0} (m n p q : Bool) (x y : T) → m ≡ n → p ≡ q → x ≡ y → typed m p x ≡ typed n q y
same_typed m n p q x y e f g = rw (e, f, g) refl

same_value : {T : Type 0} (Is : List ℕ → T → Type 0) (v w : TypedAvp T) (a : Avp) → One Is → IsTypedOf Is v a → IsTypedOf Is w a → v ≡ w
unfolding typed
same_value Is v w a one h k = same_typed v.mandatory w.mandatory v.protected w.protected v.value w.value (h.mandatory ∙ sym k.mandatory) (h.protected ∙ sym k.protected) (one a.octets v.value w.value h.value k.value)

same_values : {T : Type 0} (Is : List ℕ → T → Type 0) (xs ys : List (TypedAvp T)) (list : List Avp) → One Is → AreTypedOf Is xs list → AreTypedOf Is ys list → xs ≡ ys
same_values Is [] [] list one h k = refl
same_values Is [] (y ∷ ys) [] one h k = absurd k
same_values Is [] (y ∷ ys) (a ∷ list) one h k = absurd h
same_values Is (x ∷ xs) [] [] one h k = absurd h
same_values Is (x ∷ xs) [] (a ∷ list) one h k = absurd k
same_values Is (x ∷ xs) (y ∷ ys) [] one h k = absurd h
same_values Is (x ∷ xs) (y ∷ ys) (a ∷ list) one h k = rw (same_value Is x y a one h.0 k.0, same_values Is xs ys list one h.1 k.1) refl

one_field : (d : List Definition) (x y : Field) (list : List Avp) → IsFieldOf d x list → IsFieldOf d y list → form_of x ≡ form_of y → x ≡ y
one_field d (Octets v) (Octets w) list h k e = ap (λ l. Octets l) (same_values IsOctets v w list one_octets h k)
one_field d (Octets v) (Numbers w) list h k e = absurd cc
one_field d (Octets v) (Types w) list h k e = absurd cc
one_field d (Octets v) (Actions w) list h k e = absurd cc
one_field d (Octets v) (Groups w) list h k e = absurd cc
one_field d (Numbers v) (Octets w) list h k e = absurd cc
one_field d (Numbers v) (Numbers w) list h k e = ap (λ l. Numbers l) (same_values IsNumber v w list one_number h k)
one_field d (Numbers v) (Types w) list h k e = absurd cc
one_field d (Numbers v) (Actions w) list h k e = absurd cc
one_field d (Numbers v) (Groups w) list h k e = absurd cc
one_field d (Types v) (Octets w) list h k e = absurd cc
one_field d (Types v) (Numbers w) list h k e = absurd cc
one_field d (Types v) (Types w) list h k e = ap (λ l. Types l) (same_values IsType v w list one_type h k)
one_field d (Types v) (Actions w) list h k e = absurd cc
one_field d (Types v) (Groups w) list h k e = absurd cc
one_field d (Actions v) (Octets w) list h k e = absurd cc
one_field d (Actions v) (Numbers w) list h k e = absurd cc
one_field d (Actions v) (Types w) list h k e = absurd cc
one_field d (Actions v) (Actions w) list h k e = ap (λ l. Actions l) (same_values IsAction v w list one_action h k)
one_field d (Actions v) (Groups w) list h k e = absurd cc
one_field d (Groups v) (Octets w) list h k e = absurd cc
one_field d (Groups v) (Numbers w) list h k e = absurd cc
one_field d (Groups v) (Types w) list h k e = absurd cc
one_field d (Groups v) (Actions w) list h k e = absurd cc
one_field d (Groups v) (Groups w) list h k e = ap (λ l. Groups l) (same_values (IsGroup d) v w list (one_group d) h k)

both : (x y : Field) (xs ys : List Field) → x ≡ y → xs ≡ ys → x ∷ xs ≡ y ∷ ys
both x y xs ys e f = rw (e, f) refl

one_list : (d : List Definition) (xs ys : List Field) (groups : List (List Avp)) → AreFields d xs groups → AreFields d ys groups → map form_of xs ≡ map form_of ys → xs ≡ ys
one_list d [] [] groups h k e = refl
one_list d [] (y ∷ ys) groups h k e = absurd cc
one_list d (x ∷ xs) [] groups h k e = absurd cc
one_list d (x ∷ xs) (y ∷ ys) [] h k e = absurd h
one_list d (x ∷ xs) (y ∷ ys) (g ∷ groups) h k e =
    let first : form_of x ≡ form_of y = cc in
    let later : map form_of xs ≡ map form_of ys = cc in
    both x y xs ys (one_field d x y g h.0 k.0 first) (one_list d xs ys groups h.1 k.1 later)

-- two commands of one kind whose fields are read from the same AVPs have the same fields
pub same_fields : (d : List Definition) (c b : Command) (groups : List (List Avp)) → AreFields d (fields c) groups → AreFields d (fields b) groups → kind_of c ≡ kind_of b → fields c ≡ fields b
same_fields d c b groups h k e = one_list d (fields c) (fields b) groups h k (forms_are c ∙ ap forms e ∙ sym (forms_are b))
