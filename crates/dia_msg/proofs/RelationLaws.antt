-- The faults of a message as a relation are those that the functions on lists give.
use Rattle.std.proofs.Common.{◌≡◌, ℕ, Bool, true, false, List, [], ◌∷◌, ◌++◌, drop, Option, Some, Err, All, refl, sym, ap, subst, ◌∙◌}
use Rattle.std.specs.Prelude.{slice_get}
use Rattle.std.specs.Option.{option_map_or}
use Rattle.std.proofs.lemmas.List.Elements.{All-nil, All-head, All-tail, All-filter}
use Rattle.dia_avp.specs.declared.avp.Avp.{Avp}
use Rattle.dia_avp.specs.Reading.{avps_in}
use Rattle.dia_avp.specs.Look.{is_coded, first_number}
use Rattle.dia_avp.proofs.Bytes.{IsBytes, IsBytes-drop}
use Rattle.dia_avp.proofs.PartLaws.{avps_in-only, avps_in-whole, avps_in-bytes}
use Rattle.dia_dict.specs.declared.definition.Definition.{Definition}
use Rattle.dia_tree.specs.declared.fault.MsgFault.{MsgFault}
use Rattle.dia_tree.specs.Faults.{group_faults}
use Rattle.dia_tree.proofs.RelationLaws.{message_faults, HasMessageFaults-takes, HasMessageFaults-again}
use Rattle.dia_command.specs.declared.header.Header.{Header}
use Rattle.dia_command.specs.Header.{header_in}
use Rattle.dia_msg.specs.Faults.{header_faults, is_credit, is_event, kind_read, format_read, has_services, instances, IsGroupOf, AreGroups, missing_faults, services_faults, HasFaults}
use Rattle.dia_msg.specs.Reading.{IsReading}
use Rattle.dia_msg.specs.Walk.{whole_avps, groups_in, faults_by, faults}

abbrev HasBytes : Avp → Type 0
HasBytes a = IsBytes a.octets

IsGroupOf-takes : (a : Avp) → IsBytes a.octets → IsGroupOf a (first_number 432 (avps_in a.octets).0)
IsGroupOf-takes a fits =
    let w = avps_in-whole a.octets fits in
    ((avps_in a.octets).0, (avps_in a.octets).1, w.0, w.1, refl)

IsGroupOf-again : (a : Avp) (group : Option ℕ) → IsGroupOf a group → group ≡ first_number 432 (avps_in a.octets).0
IsGroupOf-again a group h = let parts : avps_in a.octets ≡ (h.0, h.1) = avps_in-only a.octets h.0 h.1 h.2 h.3 in h.4 ∙ rw parts refl

AreGroups-takes : (list : List Avp) → All HasBytes list → AreGroups list (groups_in list)
AreGroups-takes [] h = refl
AreGroups-takes (a ∷ list) h =
    (first_number 432 (avps_in a.octets).0, groups_in list, IsGroupOf-takes a (All-head HasBytes a list h), AreGroups-takes list (All-tail HasBytes a list h), refl)

both_groups : (x y : Option ℕ) (xs ys : List (Option ℕ)) → x ≡ y → xs ≡ ys → x ∷ xs ≡ y ∷ ys
both_groups x y xs ys e f = rw (e, f) refl

AreGroups-again : (list : List Avp) (groups : List (Option ℕ)) → AreGroups list groups → groups ≡ groups_in list
AreGroups-again [] groups h = h
AreGroups-again (a ∷ list) groups h = h.4 ∙ both_groups _ _ _ _ (IsGroupOf-again a h.0 h.2) (AreGroups-again list h.1 h.3)

instances_by : (b : Bool) (header : Header) (list : List Avp) → option_map_or has_services (kind_read header list) false ≡ b → All HasBytes list → All HasBytes (instances header list)
instances_by true header list e h = rw e (All-filter (is_coded 456) HasBytes list h)
instances_by false header list e h = rw e (All-nil HasBytes)

pub HasFaults-takes : (d : List Definition) (octets : List ℕ) → IsBytes (drop 20 octets) → HasFaults d octets (faults d octets)
HasFaults-takes d octets bytes =
    let body = drop 20 octets in
    let w = avps_in-whole body bytes in
    let header = header_in octets in
    let list = whole_avps octets in
    record {
      avps = list;
      left = (avps_in body).1;
      whole = w.0;
      over = w.1;
      inner = message_faults d (is_credit header) body;
      inside = HasMessageFaults-takes d (is_credit header) body bytes;
      groups = groups_in (instances header list);
      grouped = AreGroups-takes (instances header list) (instances_by _ header list refl (avps_in-bytes body bytes));
      all = refl;
    }

abbrev joined : List MsgFault → List MsgFault → List MsgFault → List MsgFault → List MsgFault
joined a b c e = a ++ (b ++ (c ++ e))

pub HasFaults-again : (d : List Definition) (octets : List ℕ) (fs : List MsgFault) → HasFaults d octets fs → fs ≡ faults d octets
HasFaults-again d octets fs h =
    let body = drop 20 octets in
    let header = header_in octets in
    let parts : avps_in body ≡ (h.avps, h.left) = avps_in-only body h.avps h.left h.whole h.over in
    let same : whole_avps octets ≡ h.avps = ap (λ (p : List Avp × List ℕ). p.0) parts in
    let inner : h.inner ≡ group_faults d (is_event header h.avps) 5 body =
    HasMessageFaults-again d (is_credit header) body h.inner h.inside ∙ ap (λ (l : List Avp). group_faults d (is_event header l) 5 body) same in
    let groups = AreGroups-again (instances header h.avps) h.groups h.grouped in
    h.all
    ∙ ap (λ (x : List MsgFault). header_faults octets ++ (x ++ (missing_faults d (format_read header h.avps) h.avps ++ services_faults (is_event header h.avps) h.groups))) inner
    ∙ ap (λ (g : List (Option ℕ)). header_faults octets ++ (group_faults d (is_event header h.avps) 5 body ++ (missing_faults d (format_read header h.avps) h.avps ++ services_faults (is_event header h.avps) g))) groups
    ∙ ap (λ (l : List Avp). faults_by d octets l) (sym same)

list_front : (fs : List MsgFault) (f : MsgFault) → slice_get fs 0 ≡ Some f → (later : List MsgFault) × (fs ≡ f ∷ later)
list_front [] f e = absurd cc
list_front (g ∷ fs) f e = let same : g ≡ f = cc in (fs, rw same refl)

-- the first fault
pub first_takes : (d : List Definition) (octets : List ℕ) (f : MsgFault) → IsBytes octets → slice_get (faults d octets) 0 ≡ Some f → IsReading d octets (Err f)
first_takes d octets f fits e =
    let front = list_front (faults d octets) f e in
    (front.0, subst (λ (fs : List MsgFault). HasFaults d octets fs) front.1 (HasFaults-takes d octets (IsBytes-drop 20 octets fits)))

pub first_again : (d : List Definition) (octets : List ℕ) (f : MsgFault) → IsReading d octets (Err f) → slice_get (faults d octets) 0 ≡ Some f
first_again d octets f h = ap (λ (fs : List MsgFault). slice_get fs 0) (sym (HasFaults-again d octets (f ∷ h.0) h.1))
