-- Why octets are no group's data, from what they are read as. For callers: group_fault-none, group_fault-some,
-- group_fault-nested, and back: parts_fault-group, group_fault-reading.
use Rattle.std.proofs.Common.{◌≡◌, ℕ, ◌<◌, ◌≤◌, Bool, true, false, ◌&&◌, ◌||◌, cond, ltb, eqb, List, [], ◌++◌, length, Option, Some, None, Ok, refl, arith, inl, inr}
use Rattle.std.proofs.Math.Bool.{and-false}
use Rattle.std.proofs.lemmas.Bool.{ltb-false, le-ltb, lt-ltb, ne_eqb, eq-eqb}
use Rattle.std.proofs.lemmas.List.{length-append, append-nil, nil_from_length}
use Rattle.dia_avp.specs.declared.avp.Avp.{Avp}
use Rattle.dia_avp.specs.declared.fault.FaultCode.{FaultCode}
use Rattle.dia_avp.specs.declared.fault.FaultCode.TheVariants.{ShortHeader, LengthBelowHeader, PastEnd, TooMany, TooDeep}
use Rattle.dia_avp.specs.declared.fault.FieldFault.{FieldFault}
use Rattle.dia_avp.specs.declared.fault.FieldFault.TheVariants.{BadValue, BadLength}
use Rattle.dia_avp.specs.declared.fault.AvpFault.{AvpFault}
use Rattle.dia_avp.specs.Avps.{Wrong, Broken, IsFault, IsReading}
use Rattle.dia_avp.specs.Reading.{avps_in}
use Rattle.dia_avp.specs.Group.{fault_in_group, parts_fault, group_fault}
use Rattle.dia_avp.proofs.Bytes.{IsBytes}
use Rattle.dia_avp.proofs.PartLaws.{Parts, avps_in-all, avps_in-only, avps_in-append, avps_in-none, avps_in-broken}

-- at most 128 AVPs with nothing left are a group
pub parts_fault-none : (list : List Avp) → length list ≤ 128 → parts_fault (list, []) ≡ None
parts_fault-none list few = rw (le-ltb _ _ few, and-false (eqb (length list) 128)) refl

-- more than 128, and 128 with anything left, are not
pub parts_fault-more : (parts : Parts) → 128 < length parts.0 → parts_fault parts ≡ Some BadValue
parts_fault-more parts more = rw (lt-ltb _ _ more) refl

pub parts_fault-behind : (parts : Parts) → length parts.0 ≡ 128 → 0 < length parts.1 → parts_fault parts ≡ Some BadValue
parts_fault-behind parts full left = rw (le-ltb 128 (length parts.0) (omega arith), eq-eqb _ _ full, lt-ltb _ _ left) refl

-- nor are fewer with something left
pub parts_fault-broken : (parts : Parts) → length parts.0 < 128 → 0 < length parts.1 → parts_fault parts ≡ Some BadLength
parts_fault-broken parts few left = rw (le-ltb 128 (length parts.0) (omega arith), ne_eqb (length parts.0) 128 (λ e. omega arith), lt-ltb _ _ left) refl

-- octets that are read as a list are a group
pub group_fault-none : (octets : List ℕ) (depth : ℕ) (list : List Avp) → IsReading octets depth (Ok list) → group_fault depth octets ≡ None
group_fault-none octets depth list r =
    let e : avps_in octets ≡ (list, []) = avps_in-only octets list [] r.2 (inl refl) in
    rw (le-ltb _ _ r.0, e) (parts_fault-none list r.1)

behind : (before : List Avp) (left : List ℕ) → 0 < length left → length before ≡ 128 → parts_fault (before ++ (avps_in left).0, (avps_in left).1) ≡ Some BadValue
behind before left more full =
    elim (avps_in-none left) [
      | inl some ↦ parts_fault-more (before ++ (avps_in left).0, (avps_in left).1) (omega (arith, length-append before (avps_in left).0))
      | inr e ↦ rw (e, append-nil before) (parts_fault-behind (before, left) full more)
    ]

broken : (before : List Avp) (left : List ℕ) (code : FaultCode) → 0 < length left → length before < 128 → Broken left code → parts_fault (before ++ (avps_in left).0, (avps_in left).1) ≡ Some BadLength
broken before left code more few w = rw (avps_in-broken left code w, append-nil before) (parts_fault-broken (before, left) few more)

wrong : (before : List Avp) (left : List ℕ) (code : FaultCode) → 0 < length left → Wrong (length before) left code → parts_fault (before ++ (avps_in left).0, (avps_in left).1) ≡ Some (fault_in_group code)
wrong before left ShortHeader more w = broken before left ShortHeader more w.0 w.1
wrong before left LengthBelowHeader more w = broken before left LengthBelowHeader more w.0 w.1
wrong before left PastEnd more w = broken before left PastEnd more w.0 w.1
wrong before left TooMany more w = behind before left more w
wrong before left TooDeep more w = absurd w

-- octets in which a fault is found are not
pub group_fault-some : (octets : List ℕ) (depth : ℕ) (f : AvpFault) → IsFault octets depth f → group_fault depth octets ≡ Some (fault_in_group f.code)
group_fault-some octets depth f (inl h) = rw (lt-ltb _ _ h.0, h.2) refl
group_fault-some octets depth f (inr h) =
    rw (le-ltb _ _ h.0, avps_in-append octets h.1.before h.1.left h.1.whole) (wrong h.1.before h.1.left f.code h.1.more h.1.wrong)

-- within at most 4 groups the depth does not count
pub group_fault-nested : (octets : List ℕ) (depth : ℕ) → depth ≤ 4 → group_fault depth octets ≡ parts_fault (avps_in octets)
group_fault-nested octets depth le = rw (le-ltb _ _ le) refl

guards : (a b c : Bool) (n m : ℕ) → (a ≡ false → n ≤ 128) → (c ≡ false → m ≤ 0) → cond (a || (b && c)) (Some BadValue) (cond c (Some BadLength) None) ≡ None → (n ≤ 128) × (m ≤ 0)
guards true b c n m p q e = absurd cc
guards false true true n m p q e = absurd cc
guards false false true n m p q e = absurd cc
guards false true false n m p q e = (p refl, q refl)
guards false false false n m p q e = (p refl, q refl)

-- AVPs that are a group are at most 128, and nothing is left
pub parts_fault-group : (parts : Parts) → parts_fault parts ≡ None → (length parts.0 ≤ 128) × (parts.1 ≡ [])
parts_fault-group parts e =
    let g = guards (ltb 128 (length parts.0)) (eqb (length parts.0) 128) (ltb 0 (length parts.1)) (length parts.0) (length parts.1) (ltb-false _ _) (ltb-false _ _) e in
    (g.0, nil_from_length parts.1 (omega (arith, g.1)))

shallow : (b : Bool) (depth : ℕ) (o : Option FieldFault) → (b ≡ false → depth ≤ 4) → cond b (Some BadValue) o ≡ None → (depth ≤ 4) × (o ≡ None)
shallow true depth o p e = absurd cc
shallow false depth o p e = (p refl, e)

-- octets that are a group are read as a list
pub group_fault-reading : (octets : List ℕ) (depth : ℕ) → IsBytes octets → group_fault depth octets ≡ None → IsReading octets depth (Ok (avps_in octets).0)
group_fault-reading octets depth fits e =
    let s = shallow (ltb 4 depth) depth (parts_fault (avps_in octets)) (ltb-false _ _) e in
    let p = parts_fault-group (avps_in octets) s.1 in
    (s.0, p.0, avps_in-all octets fits p.1)
