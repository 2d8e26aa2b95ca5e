-- The faults of octets, and of a message's AVPs, are one list: what `group_faults` gives (takes), and nothing else (again).
use Rattle.std.proofs.Common.{◌≡◌, ℕ, zero, suc, ◌+◌, Bool, true, false, ◌&&◌, List, [], ◌∷◌, ◌++◌, Option, None, Some, All, refl, sym, ap, subst, ◌∙◌, if◌then◌else◌}
use Rattle.std.specs.Prelude.{◌<◌, length, nat_le, slice_get, Result, Ok, Err, IfOk, OnErr}
use Rattle.std.specs.Option.{option_map}
use Rattle.dia_tree.specs.declared.fault.FaultView.{FaultView}
use Rattle.dia_tree.specs.declared.check.NoRoom.{NoRoom}
use Rattle.dia_tree.specs.View.{seen_fault}
use Rattle.std.proofs.lemmas.List.Elements.{All-head, All-tail}
use Rattle.dia_avp.specs.declared.avp.Avp.{Avp}
use Rattle.dia_avp.specs.Avps.{AvpsThen, Avps}
use Rattle.dia_avp.specs.Reading.{avps_in}
use Rattle.dia_avp.proofs.Bytes.{IsBytes}
use Rattle.dia_avp.proofs.PartLaws.{HasBytes, avps_in-whole, avps_in-only, avps_in-bytes}
use Rattle.dia_dict.specs.declared.definition.AvpKind.{AvpKind}
use Rattle.dia_dict.specs.declared.definition.Definition.{Definition}
use Rattle.dia_dict.specs.Dictionary.{definition_of}
use Rattle.dia_tree.specs.declared.fault.MsgFault.{MsgFault}
use Rattle.base_codes.specs.declared.result_code.ResultCode.TheVariants.{UnableToComply}
use Rattle.dia_tree.specs.Kind.{is_group, is_grouped}
use Rattle.dia_tree.specs.Faults.{fault, typed_faults, faults_by, place_faults, list_faults, left_faults, group_faults, AreFaults, HasFaults, has_event_type, IsEvent, HasMessageFaults}
use Rattle.dia_tree.proofs.FaultLaws.{group_faults-parts, group_faults-none}

-- of what groups hold, only what this AVP holds counts
by_kind : (inside : List ℕ → List MsgFault) (inner : List MsgFault) (kind : AvpKind) (b : Bool) (event : Bool) (a : Avp) → is_group kind ≡ b → (b ≡ true → inside a.octets ≡ inner)
    → typed_faults inside kind event a ≡ typed_faults (λ _. inner) kind event a
by_kind inside inner kind true event a e same = rw e (same refl)
by_kind inside inner kind false event a e same = rw e refl

by_definition : (inside : List ℕ → List MsgFault) (inner : List MsgFault) (definition : Option Definition) (event : Bool) (a : Avp) → (is_grouped definition ≡ true → inside a.octets ≡ inner)
    → faults_by inside definition event a ≡ faults_by (λ _. inner) definition event a
by_definition inside inner None event a same = refl
by_definition inside inner (Some d) event a same = by_kind inside inner d.kind (is_group d.kind) event a refl same

at_place : (inside : List ℕ → List MsgFault) (inner : List MsgFault) (definitions : List Definition) (event : Bool) (before : ℕ) (a : Avp) → (is_grouped (definition_of definitions a.code a.vendor) ≡ true → inside a.octets ≡ inner)
    → place_faults inside definitions event before a ≡ place_faults (λ _. inner) definitions event before a
at_place inside inner definitions event before a same =
    ap (λ (own : List MsgFault). if nat_le 128 before then fault UnableToComply None ∷ [] else own) (by_definition inside inner (definition_of definitions a.code a.vendor) event a same)

list_takes : (Inside : List ℕ → List MsgFault → Type 0) (inside : List ℕ → List MsgFault) (definitions : List Definition) (event : Bool) (before : ℕ) (list : List Avp)
    → ((octets : List ℕ) → IsBytes octets → Inside octets (inside octets)) → All HasBytes list → AreFaults Inside definitions event before list (list_faults inside definitions event before list)
list_takes Inside inside definitions event before [] each fits = refl
list_takes Inside inside definitions event before (a ∷ list) each fits = (
  inside a.octets,
  list_faults inside definitions event (before + 1) list,
  λ _. each a.octets (All-head HasBytes a list fits),
  list_takes Inside inside definitions event (before + 1) list each (All-tail HasBytes a list fits),
  ap (λ (own : List MsgFault). own ++ list_faults inside definitions event (before + 1) list) (at_place inside (inside a.octets) definitions event before a (λ _. refl)),
)

-- what the function gives is the octets' faults
pub HasFaults-takes : (definitions : List Definition) (event : Bool) (room : ℕ) (octets : List ℕ) → IsBytes octets → HasFaults definitions event room octets (group_faults definitions event room octets)
unfolding HasFaults
HasFaults-takes definitions event zero octets fits = group_faults-none definitions event octets
HasFaults-takes definitions event (suc n) octets fits =
    let w = avps_in-whole octets fits in (
      (avps_in octets).0,
      (avps_in octets).1,
      list_faults (group_faults definitions event n) definitions event 0 (avps_in octets).0,
      w.0,
      w.1,
      list_takes (HasFaults definitions event n) (group_faults definitions event n) definitions event 0 (avps_in octets).0 (HasFaults-takes definitions event n) (avps_in-bytes octets fits),
      group_faults-parts definitions event n octets,
    )

list_again : (Inside : List ℕ → List MsgFault → Type 0) (inside : List ℕ → List MsgFault) (definitions : List Definition) (event : Bool) (before : ℕ) (list : List Avp) (faults : List MsgFault)
    → ((octets : List ℕ) (inner : List MsgFault) → Inside octets inner → inner ≡ inside octets) → AreFaults Inside definitions event before list faults → faults ≡ list_faults inside definitions event before list
list_again Inside inside definitions event before [] faults each h = h
list_again Inside inside definitions event before (a ∷ list) faults each h =
    let own = at_place inside h.0 definitions event before a (λ group. sym (each a.octets h.0 (h.2 group))) in
    let later : h.1 ≡ list_faults inside definitions event (before + 1) list = list_again Inside inside definitions event (before + 1) list h.1 each h.3 in
    h.4 ∙ ap (λ (x : List MsgFault). x ++ h.1) (sym own) ∙ ap (λ (x : List MsgFault). place_faults inside definitions event before a ++ x) later

-- and nothing else is
pub HasFaults-again : (definitions : List Definition) (event : Bool) (room : ℕ) (octets : List ℕ) (faults : List MsgFault) → HasFaults definitions event room octets faults → faults ≡ group_faults definitions event room octets
unfolding HasFaults
HasFaults-again definitions event zero octets faults h = h ∙ sym (group_faults-none definitions event octets)
HasFaults-again definitions event (suc n) octets faults h =
    let parts : avps_in octets ≡ (h.0, h.1) = avps_in-only octets h.0 h.1 h.3 h.4 in
    let own : h.2 ≡ list_faults (group_faults definitions event n) definitions event 0 h.0 = list_again (HasFaults definitions event n) (group_faults definitions event n) definitions event 0 h.0 h.2 (HasFaults-again definitions event n) h.5 in
    h.6 ∙ ap (λ (x : List MsgFault). x ++ left_faults definitions h.1) own ∙ sym (group_faults-parts definitions event n octets ∙ rw parts refl)

-- whether a message is an EVENT request, by the AVPs that are read
abbrev pub event_in : Bool → List ℕ → Bool
event_in credit octets = credit && has_event_type (avps_in octets).0

pub IsEvent-takes : (credit : Bool) (octets : List ℕ) → IsBytes octets → IsEvent credit octets (event_in credit octets)
IsEvent-takes credit octets fits =
    let w = avps_in-whole octets fits in
    ((avps_in octets).0, (avps_in octets).1, w.0, w.1, refl)

pub IsEvent-again : (credit : Bool) (octets : List ℕ) (event : Bool) → IsEvent credit octets event → event ≡ event_in credit octets
IsEvent-again credit octets event h = let parts : avps_in octets ≡ (h.0, h.1) = avps_in-only octets h.0 h.1 h.2 h.3 in h.4 ∙ rw parts refl

-- the faults of a message's AVPs by the functions
abbrev pub message_faults : List Definition → Bool → List ℕ → List MsgFault
message_faults definitions credit octets = group_faults definitions (event_in credit octets) 5 octets

pub HasMessageFaults-takes : (definitions : List Definition) (credit : Bool) (octets : List ℕ) → IsBytes octets → HasMessageFaults definitions credit octets (message_faults definitions credit octets)
HasMessageFaults-takes definitions credit octets fits = (event_in credit octets, IsEvent-takes credit octets fits, HasFaults-takes definitions (event_in credit octets) 5 octets fits)

pub HasMessageFaults-again : (definitions : List Definition) (credit : Bool) (octets : List ℕ) (faults : List MsgFault) → HasMessageFaults definitions credit octets faults → faults ≡ message_faults definitions credit octets
HasMessageFaults-again definitions credit octets faults h =
    HasFaults-again definitions h.0 5 octets faults h.2 ∙ ap (λ (event : Bool). group_faults definitions event 5 octets) (IsEvent-again credit octets h.0 h.1)

-- the first fault that was found is the first of the faults
pub first_is : (definitions : List Definition) (credit : Bool) (octets : List ℕ) (event : Bool) (first : Option MsgFault) → IsBytes octets → event ≡ event_in credit octets → first ≡ slice_get (group_faults definitions event 5 octets) 0
    → (faults : List MsgFault) × HasMessageFaults definitions credit octets faults × (first ≡ slice_get faults 0)
first_is definitions credit octets event first fits same e = (
  message_faults definitions credit octets,
  HasMessageFaults-takes definitions credit octets fits,
  e ∙ ap (λ (x : Bool). slice_get (group_faults definitions x 5 octets) 0) same,
)

-- AVPs of which nothing is left are all that the octets are
pub all_are : (octets : List ℕ) (list : List Avp) → IsBytes octets → avps_in octets ≡ (list, []) → Avps octets list
all_are octets list fits e = subst (λ (parts : List Avp × List ℕ). AvpsThen octets parts.0 parts.1) e (avps_in-whole octets fits).0

-- what a survey that was not for want of room found is so too
pub found_is : (definitions : List Definition) (credit : Bool) (octets : List ℕ) (event : Bool) (answer : Result (Option FaultView) NoRoom) → IsBytes octets → event ≡ event_in credit octets
    → IfOk answer (λ found. option_map seen_fault found ≡ slice_get (group_faults definitions event 5 octets) 0)
    → IfOk answer (λ found. (faults : List MsgFault) × HasMessageFaults definitions credit octets faults × (option_map seen_fault found ≡ slice_get faults 0))
found_is definitions credit octets event (Ok found) fits same e = first_is definitions credit octets event (option_map seen_fault found) fits same e
found_is definitions credit octets event (Err none) fits same e = e

pub found_are : (octets : List ℕ) (list : List Avp) (answer : Result (Option FaultView) NoRoom) → IsBytes octets
    → IfOk answer (λ found. found ≡ None → avps_in octets ≡ (list, []))
    → IfOk answer (λ found. found ≡ None → Avps octets list)
found_are octets list (Ok found) fits e = λ none. all_are octets list fits (e none)
found_are octets list (Err none) fits e = e

-- more AVPs are there than so many
pub more_are : (octets : List ℕ) (n : ℕ) (answer : Result (Option FaultView) NoRoom) → IsBytes octets → OnErr answer ((n < 128) × (n < length (avps_in octets).0))
    → OnErr answer ((n < 128) × (list : List Avp) × (rest : List ℕ) × AvpsThen octets list rest × (n < length list))
more_are octets n (Ok found) fits e = e
more_are octets n (Err none) fits e = (e.0, (avps_in octets).0, (avps_in octets).1, (avps_in-whole octets fits).0, e.1)
