-- When octets have no fault, part by part: nothing is left behind their AVPs, which are at most 128, and each is good.
-- `group_faults` stays shut: cite group_faults-parts (an AVP's octets with levels open to them) and group_faults-none.
use Rattle.std.proofs.Common.{◌≡◌, ℕ, suc, ◌+◌, ◌<◌, ◌≤◌, Bool, true, false, cond, List, [], ◌∷◌, ◌++◌, length, None, All, refl, sym, ◌∙◌, arith}
use Rattle.std.specs.Prelude.{nat_le}
use Rattle.std.proofs.lemmas.Bool.{lt-leb, leb-false}
use Rattle.std.proofs.lemmas.List.Elements.{All-nil, All-cons, All-head, All-tail}
use Rattle.dia_avp.specs.declared.avp.Avp.{Avp}
use Rattle.dia_avp.specs.Reading.{avps_in}
use Rattle.dia_dict.specs.declared.definition.Definition.{Definition}
use Rattle.dia_tree.specs.declared.fault.MsgFault.{MsgFault}
use Rattle.base_codes.specs.declared.result_code.ResultCode.TheVariants.{UnableToComply}
use Rattle.dia_tree.specs.Faults.{fault, avp_faults, place_faults, list_faults, left_faults, broken_fault, group_faults, IsGood}

-- the faults of octets that do not stand in a group too many
pub group_faults-parts : (definitions : List Definition) (event : Bool) (n : ℕ) (octets : List ℕ)
    → group_faults definitions event (suc n) octets ≡ list_faults (group_faults definitions event n) definitions event 0 (avps_in octets).0 ++ left_faults definitions (avps_in octets).1
unfolding group_faults
group_faults-parts definitions event n octets = refl

-- and of those that do
pub group_faults-none : (definitions : List Definition) (event : Bool) (octets : List ℕ) → group_faults definitions event 0 octets ≡ fault UnableToComply None ∷ []
unfolding group_faults
group_faults-none definitions event octets = refl

pub none_both : (xs ys : List MsgFault) → xs ++ ys ≡ [] → (xs ≡ []) × (ys ≡ [])
none_both [] ys e = (refl, e)
none_both (x ∷ xs) ys e = absurd cc

nothing_left : (definitions : List Definition) (left : List ℕ) → left_faults definitions left ≡ [] → left ≡ []
nothing_left definitions [] e = refl
nothing_left definitions (x ∷ left) e = let k : broken_fault definitions (x ∷ left) ∷ [] ≡ [] = e in absurd cc

-- octets without a fault: their AVPs and what is left have none
parts_none : (definitions : List Definition) (event : Bool) (n : ℕ) (octets : List ℕ) → group_faults definitions event (suc n) octets ≡ []
    → (list_faults (group_faults definitions event n) definitions event 0 (avps_in octets).0 ≡ []) × (left_faults definitions (avps_in octets).1 ≡ [])
parts_none definitions event n octets e = none_both _ _ (sym (group_faults-parts definitions event n octets) ∙ e)

-- an AVP without a fault where it stands is good, and has fewer than 128 before it
few_before : (definitions : List Definition) (event : Bool) (n before : ℕ) (a : Avp) (b : Bool) → nat_le 128 before ≡ b → place_faults (group_faults definitions event n) definitions event before a ≡ [] → IsGood definitions event n a × (before < 128)
few_before definitions event n before a true e h =
    let k : cond true (fault UnableToComply None ∷ []) (avp_faults (group_faults definitions event n) definitions event a) ≡ [] = rw e at h in absurd cc
few_before definitions event n before a false e h = (rw e at h, leb-false 128 before e)

-- AVPs without a fault: each is good, and they are at most 128
each : (definitions : List Definition) (event : Bool) (n before : ℕ) (list : List Avp) → before ≤ 128 → list_faults (group_faults definitions event n) definitions event before list ≡ []
    → All (IsGood definitions event n) list × (before + length list ≤ 128)
each definitions event n before [] le h = (All-nil (IsGood definitions event n), omega arith)
each definitions event n before (a ∷ list) le h =
    let both = none_both (place_faults (group_faults definitions event n) definitions event before a) (list_faults (group_faults definitions event n) definitions event (before + 1) list) h in
    let own = few_before definitions event n before a (nat_le 128 before) refl both.0 in
    let next = each definitions event n (before + 1) list (omega arith) both.1 in
    (All-cons (IsGood definitions event n) a list own.0 next.0, omega arith)

good_from : (definitions : List Definition) (event : Bool) (n before : ℕ) (list : List Avp) → All (IsGood definitions event n) list → before + length list ≤ 128
    → list_faults (group_faults definitions event n) definitions event before list ≡ []
good_from definitions event n before [] h le = refl
good_from definitions event n before (a ∷ list) h le =
    rw (lt-leb 128 before (omega arith), All-head (IsGood definitions event n) a list h, good_from definitions event n (before + 1) list (All-tail (IsGood definitions event n) a list h) (omega arith)) refl

-- behind the AVPs of octets without a fault nothing is left
pub left_none : (definitions : List Definition) (event : Bool) (n : ℕ) (octets : List ℕ) → group_faults definitions event (suc n) octets ≡ [] → (avps_in octets).1 ≡ []
left_none definitions event n octets e = nothing_left definitions (avps_in octets).1 (parts_none definitions event n octets e).1

-- they are at most 128
pub few : (definitions : List Definition) (event : Bool) (n : ℕ) (octets : List ℕ) → group_faults definitions event (suc n) octets ≡ [] → length (avps_in octets).0 ≤ 128
few definitions event n octets e = omega (arith, (each definitions event n 0 (avps_in octets).0 (omega arith) (parts_none definitions event n octets e).0).1)

-- each is good
pub each_good : (definitions : List Definition) (event : Bool) (n : ℕ) (octets : List ℕ) → group_faults definitions event (suc n) octets ≡ [] → All (IsGood definitions event n) (avps_in octets).0
each_good definitions event n octets e = (each definitions event n 0 (avps_in octets).0 (omega arith) (parts_none definitions event n octets e).0).0

-- at most 128 AVPs that are good have no fault
pub good_list : (definitions : List Definition) (event : Bool) (n : ℕ) (list : List Avp) → All (IsGood definitions event n) list → length list ≤ 128
    → list_faults (group_faults definitions event n) definitions event 0 list ≡ []
good_list definitions event n list h le = good_from definitions event n 0 list h (omega arith)

-- nor have octets that are these AVPs
pub good_octets : (definitions : List Definition) (event : Bool) (n : ℕ) (octets : List ℕ) (list : List Avp) → avps_in octets ≡ (list, []) → All (IsGood definitions event n) list → length list ≤ 128
    → group_faults definitions event (suc n) octets ≡ []
good_octets definitions event n octets list e h le = group_faults-parts definitions event n octets ∙ rw (e, good_list definitions event n list h le) refl
