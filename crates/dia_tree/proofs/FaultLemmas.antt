-- The first fault of octets, while their AVPs are looked at one after the other.
use Rattle.std.proofs.Common.{◌≡◌, ℕ, zero, suc, ◌+◌, ◌-◌, ◌<◌, ◌≤◌, Bool, List, [], ◌∷◌, ◌++◌, length, map, refl, sym, ◌∙◌, arith, append_assoc, true, false}
use Rattle.std.proofs.lemmas.List.{length_push, append-nil, map-append}
use Rattle.dia_avp.specs.declared.avp.AvpView.{AvpView}
use Rattle.dia_avp.specs.View.{seen}
use Rattle.std.specs.Prelude.{slice_get, Option, Some, None, is_some}
use Rattle.std.specs.Option.{option_map}
use Rattle.std.proofs.lemmas.Bool.{lt-leb}
use Rattle.dia_avp.specs.declared.avp.Avp.{Avp}
use Rattle.dia_avp.specs.Reading.{avps_in}
use Rattle.dia_avp.proofs.PartLaws.{avps_in-nil}
use Rattle.dia_dict.specs.declared.definition.Definition.{Definition}
use Rattle.dia_tree.specs.declared.fault.FaultView.{FaultView}
use Rattle.dia_tree.specs.declared.fault.MsgFault.{MsgFault}
use Rattle.dia_tree.specs.View.{seen_fault}
use Rattle.base_codes.specs.declared.result_code.ResultCode.TheVariants.{UnableToComply}
use Rattle.dia_dict.specs.Dictionary.{definition_of}
use Rattle.dia_dict.specs.Kind.{least_size, data_fault}
use Rattle.dia_tree.specs.Kind.{is_group}
use Rattle.dia_tree.proofs.FaultLaws.{group_faults-parts}
use Rattle.dia_tree.specs.Faults.{fault, unknown_faults, data_faults, avp_faults, place_faults, list_faults, left_faults, broken_fault, group_faults}

-- the faults inside a group among octets with so many levels open to them
abbrev pub inside_of : List Definition → Bool → ℕ → List ℕ → List MsgFault
inside_of definitions event room = group_faults definitions event (room - 1)

-- the faults of all octets are those of the rest, which has so many AVPs before it
pub record SoFar (definitions : List Definition) (event : Bool) (room : ℕ) (octets : List ℕ) (count : ℕ) (rest : List ℕ) : Type 0 where
  pub left : group_faults definitions event room octets ≡ list_faults (inside_of definitions event room) definitions event count (avps_in rest).0 ++ left_faults definitions (avps_in rest).1
  pub few : count ≤ 128

pub SoFar-start : (definitions : List Definition) (event : Bool) (room : ℕ) (octets : List ℕ) → 0 < room → SoFar definitions event room octets 0 octets
SoFar-start definitions event zero octets lt = absurd (omega arith)
SoFar-start definitions event (suc n) octets lt =
    let e : suc n - 1 ≡ n = omega arith in
    record { left = rw e (group_faults-parts definitions event n octets); few = omega arith }

-- where the next AVP is read
abbrev pub IsNext : List ℕ → Avp → List ℕ → Type 0
IsNext rest a next = avps_in rest ≡ (a ∷ (avps_in next).0, (avps_in next).1)

opened : (definitions : List Definition) (event : Bool) (room : ℕ) (octets : List ℕ) (count : ℕ) (rest : List ℕ) (a : Avp) (next : List ℕ) → SoFar definitions event room octets count rest → IsNext rest a next
    → group_faults definitions event room octets
    ≡ place_faults (inside_of definitions event room) definitions event count a
    ++ (list_faults (inside_of definitions event room) definitions event (count + 1) (avps_in next).0 ++ left_faults definitions (avps_in next).1)
opened definitions event room octets count rest a next s e =
    let inside = inside_of definitions event room in
    s.left ∙ rw e (append_assoc (place_faults inside definitions event count a) (list_faults inside definitions event (count + 1) (avps_in next).0) (left_faults definitions (avps_in next).1))

-- fewer than 128 before it, the AVP itself counts
few_before : (definitions : List Definition) (event : Bool) (room count : ℕ) (a : Avp) → count < 128 → place_faults (inside_of definitions event room) definitions event count a ≡ avp_faults (inside_of definitions event room) definitions event a
few_before definitions event room count a lt = rw (lt-leb 128 count lt) refl

-- no first is none
pub none_first : (xs : List MsgFault) → slice_get xs 0 ≡ None → xs ≡ []
none_first [] e = refl
none_first (x ∷ xs) e = absurd cc

-- the first of some is the first of all
pub first_append : (xs ys : List MsgFault) (f : MsgFault) → slice_get xs 0 ≡ Some f → slice_get (xs ++ ys) 0 ≡ Some f
first_append [] ys f e = absurd cc
first_append (x ∷ xs) ys f e = e

-- the next AVP has no fault
pub SoFar-more : (definitions : List Definition) (event : Bool) (room : ℕ) (octets : List ℕ) (count : ℕ) (rest : List ℕ) (a : Avp) (next : List ℕ) (first : Option FaultView) → SoFar definitions event room octets count rest → IsNext rest a next
    → count < 128 → option_map seen_fault first ≡ slice_get (avp_faults (inside_of definitions event room) definitions event a) 0 → is_some first ≡ false → SoFar definitions event room octets (count + 1) next
SoFar-more definitions event room octets count rest a next (Some f) s e lt first none = absurd cc
SoFar-more definitions event room octets count rest a next None s e lt first none = record {
  left = opened definitions event room octets count rest a next s e ∙ rw (few_before definitions event room count a lt, none_first _ (sym first)) refl;
  few = omega arith;
}

-- the next AVP has a fault
pub SoFar-faulty : (definitions : List Definition) (event : Bool) (room : ℕ) (octets : List ℕ) (count : ℕ) (rest : List ℕ) (a : Avp) (next : List ℕ) (first : Option FaultView) → SoFar definitions event room octets count rest → IsNext rest a next
    → count < 128 → option_map seen_fault first ≡ slice_get (avp_faults (inside_of definitions event room) definitions event a) 0 → is_some first ≡ true → option_map seen_fault first ≡ slice_get (group_faults definitions event room octets) 0
SoFar-faulty definitions event room octets count rest a next None s e lt first some = absurd cc
SoFar-faulty definitions event room octets count rest a next (Some f) s e lt first some =
    sym (rw (opened definitions event room octets count rest a next s e, few_before definitions event room count a lt) (first_append (avp_faults (inside_of definitions event room) definitions event a) _ (seen_fault f) (sym first)))

-- the next AVP is the 129th
pub SoFar-full : (definitions : List Definition) (event : Bool) (room : ℕ) (octets : List ℕ) (count : ℕ) (rest : List ℕ) (a : Avp) (next : List ℕ) → SoFar definitions event room octets count rest → IsNext rest a next
    → count ≡ 128 → slice_get (group_faults definitions event room octets) 0 ≡ Some (fault UnableToComply None)
SoFar-full definitions event room octets count rest a next s e full = rw (opened definitions event room octets count rest a next s e, full) refl

left_faults-more : (definitions : List Definition) (left : List ℕ) → 0 < length left → left_faults definitions left ≡ broken_fault definitions left ∷ []
left_faults-more definitions [] more = absurd (omega arith)
left_faults-more definitions (x ∷ left) more = refl

-- the next AVP is broken
pub SoFar-broken : (definitions : List Definition) (event : Bool) (room : ℕ) (octets : List ℕ) (count : ℕ) (rest : List ℕ) → SoFar definitions event room octets count rest → avps_in rest ≡ ([], rest)
    → 0 < length rest → slice_get (group_faults definitions event room octets) 0 ≡ Some (broken_fault definitions rest)
SoFar-broken definitions event room octets count rest s e more = rw (s.left, e, left_faults-more definitions rest more) refl

-- there is no next AVP
pub SoFar-end : (definitions : List Definition) (event : Bool) (room : ℕ) (octets : List ℕ) (count : ℕ) (rest : List ℕ) → SoFar definitions event room octets count rest → length rest ≡ 0 → slice_get (group_faults definitions event room octets) 0 ≡ None
SoFar-end definitions event room octets count [] s e = rw (s.left, avps_in-nil) refl
SoFar-end definitions event room octets count (x ∷ rest) s e = absurd (omega arith)

-- the faults of an AVP by what the dictionary finds
pub by_none : (inside : List ℕ → List MsgFault) (definitions : List Definition) (event : Bool) (a : Avp) → None ≡ definition_of definitions a.code a.vendor → avp_faults inside definitions event a ≡ unknown_faults a
by_none inside definitions event a e = rw (← e) refl

pub by_group : (inside : List ℕ → List MsgFault) (definitions : List Definition) (event : Bool) (a : Avp) (d : Definition) → Some d ≡ definition_of definitions a.code a.vendor → is_group d.kind ≡ true → avp_faults inside definitions event a ≡ inside a.octets
by_group inside definitions event a d e group = rw (← e, group) refl

pub by_data : (inside : List ℕ → List MsgFault) (definitions : List Definition) (event : Bool) (a : Avp) (d : Definition) → Some d ≡ definition_of definitions a.code a.vendor → is_group d.kind ≡ false
    → avp_faults inside definitions event a ≡ data_faults (data_fault d.kind a.octets) (least_size d.kind) event a
by_data inside definitions event a d e plain = rw (← e, plain) refl

-- what a list of AVPs that was read so far has to do with all octets
pub record Listed (definitions : List Definition) (event : Bool) (room : ℕ) (octets : List ℕ) (views : List AvpView) (rest : List ℕ) : Type 0 where
  pub faults : SoFar definitions event room octets (length views) rest
  pub parts : avps_in octets ≡ (map seen views ++ (avps_in rest).0, (avps_in rest).1)

pub Listed-start : (definitions : List Definition) (event : Bool) (room : ℕ) (octets : List ℕ) (views : List AvpView) → views ≡ [] → 0 < room → Listed definitions event room octets views octets
Listed-start definitions event room octets views none lt = rw none (record { faults = SoFar-start definitions event room octets lt; parts = refl })

pub Listed-more : (definitions : List Definition) (event : Bool) (room : ℕ) (octets : List ℕ) (views : List AvpView) (rest : List ℕ) (a : AvpView) (next : List ℕ) (first : Option FaultView) → Listed definitions event room octets views rest → IsNext rest (seen a) next
    → length views < 128 → option_map seen_fault first ≡ slice_get (avp_faults (inside_of definitions event room) definitions event (seen a)) 0 → is_some first ≡ false → Listed definitions event room octets (views ++ a ∷ []) next
Listed-more definitions event room octets views rest a next first l e lt is none =
    let more = SoFar-more definitions event room octets (length views) rest (seen a) next first l.faults e lt is none in
    record {
      faults = rw (length_push views a) more;
      parts = l.parts ∙ rw (e, map-append seen views (a ∷ []), append_assoc (map seen views) (seen a ∷ []) (avps_in next).0) refl;
    }

pub Listed-end : (definitions : List Definition) (event : Bool) (room : ℕ) (octets : List ℕ) (views : List AvpView) (rest : List ℕ) → Listed definitions event room octets views rest → length rest ≡ 0 → avps_in octets ≡ (map seen views, [])
Listed-end definitions event room octets views [] l e = l.parts ∙ rw (avps_in-nil, append-nil (map seen views)) refl
Listed-end definitions event room octets views (x ∷ rest) l e = absurd (omega arith)
