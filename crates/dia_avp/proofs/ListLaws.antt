-- There is one reading of octets.
use Rattle.std.proofs.Common.{◌≡◌, ℕ, ◌+◌, ◌<◌, ◌≤◌, Bool, true, false, ltb, eqb, List, [], ◌∷◌, ◌++◌, length, drop, Some, None, Result, Ok, Err, cond, refl, sym, ap, subst, ◌∙◌, arith, inl, inr}
use Rattle.std.specs.Prelude.{slice_get}
use Rattle.std.proofs.lemmas.Bool.{le-ltb, ltb-false, lt-ltb, ltb-true, ne_eqb, eq-eqb}
use Rattle.std.proofs.lemmas.List.{length-append}
use Rattle.dia_avp.specs.declared.fault.FaultCode.{FaultCode}
use Rattle.dia_avp.specs.declared.fault.FaultCode.TheVariants.{ShortHeader, LengthBelowHeader, PastEnd, TooMany, TooDeep}
use Rattle.dia_avp.specs.declared.fault.AvpFault.{AvpFault}
use Rattle.dia_avp.specs.declared.avp.Avp.{Avp}
use Rattle.dia_avp.specs.Encoding.{header}
use Rattle.dia_avp.specs.Avps.{AvpThen, AvpsThen, Avps, Broken, Wrong, WrongAt, IsReading, header_len, length_field}
use Rattle.dia_avp.specs.Reading.{avp_at}
use Rattle.dia_avp.proofs.OneLaws.{avp_again}

-- one more AVP at the end of those that were read
pub AvpsThen-push : (octets : List ℕ) (list : List Avp) (rest : List ℕ) (a : Avp) (next : List ℕ) → AvpsThen octets list rest → AvpThen rest a next → AvpsThen octets (list ++ a ∷ []) next
AvpsThen-push octets [] rest a next h t = (next, subst (λ (x : List ℕ). AvpThen x a next) (sym h) t, refl)
AvpsThen-push octets (b ∷ list) rest a next h t = (h.0, h.1, AvpsThen-push h.0 list rest a next h.2 t)

-- an AVP has at least its header
pub shorter : (octets : List ℕ) (a : Avp) (rest : List ℕ) → AvpThen octets a rest → length rest + 8 ≤ length octets
shorter octets a rest t =
    let hd = header a.code t.flags t.len in
    let hd_len : length hd ≡ 8 = refl in
    omega (arith, ap length t.joined, length-append hd (t.id ++ (a.octets ++ (t.padding ++ rest))), length-append t.id (a.octets ++ (t.padding ++ rest)), length-append a.octets (t.padding ++ rest), length-append t.padding rest)

-- the fault at the front is the one that reading finds
pub broken_again : (octets : List ℕ) (code : FaultCode) → Broken octets code → avp_at octets ≡ Err code
unfolding avp_at
broken_again octets ShortHeader w = rw (lt-ltb _ _ w) refl
broken_again octets LengthBelowHeader w = rw (le-ltb _ _ w.0, lt-ltb _ _ w.1) refl
broken_again octets PastEnd w = rw (le-ltb _ _ w.0, le-ltb _ _ w.1, lt-ltb _ _ w.2) refl
broken_again octets TooMany w = absurd w
broken_again octets TooDeep w = absurd w

abbrev One : Type 0
One = Avp × List ℕ

guard_codes : (octets : List ℕ) (a b c : Bool) (y : One) (code : FaultCode)
    → (a ≡ true → length octets < header_len octets) → (a ≡ false → header_len octets ≤ length octets)
    → (b ≡ true → length_field octets < header_len octets) → (b ≡ false → header_len octets ≤ length_field octets)
    → (c ≡ true → length octets < length_field octets)
    → cond a (Err ShortHeader) (cond b (Err LengthBelowHeader) (cond c (Err PastEnd) (Ok y))) ≡ Err code → Broken octets code
guard_codes octets true b c y code p p' q q' r e = let k : ShortHeader ≡ code = cc in subst (λ (x : FaultCode). Broken octets x) k (p refl)
guard_codes octets false true c y code p p' q q' r e = let k : LengthBelowHeader ≡ code = cc in subst (λ (x : FaultCode). Broken octets x) k (p' refl, q refl)
guard_codes octets false false true y code p p' q q' r e = let k : PastEnd ≡ code = cc in subst (λ (x : FaultCode). Broken octets x) k (p' refl, q' refl, r refl)
guard_codes octets false false false y code p p' q q' r e = absurd cc

-- the fault that reading finds is there
pub broken_takes : (octets : List ℕ) (code : FaultCode) → avp_at octets ≡ Err code → Broken octets code
unfolding avp_at
broken_takes octets code e =
    guard_codes octets (ltb (length octets) (header_len octets)) (ltb (length_field octets) (header_len octets)) (ltb (length octets) (length_field octets)) _ code
    (ltb-true _ _) (ltb-false _ _) (ltb-true _ _) (ltb-false _ _) (ltb-true _ _) e

-- an AVP and a fault exclude each other
pub not_broken : (octets : List ℕ) (a : Avp) (rest : List ℕ) (code : FaultCode) → AvpThen octets a rest → Broken octets code → ⊥
not_broken octets a rest code t w =
    let one = avp_again octets a rest t in
    let other = broken_again octets code w in
    cc

-- a fault after fewer than 128 AVPs is a broken front
wrong-broken : (n : ℕ) (octets : List ℕ) (code : FaultCode) → n < 128 → Wrong n octets code → Broken octets code
wrong-broken n octets ShortHeader lt w = w.1
wrong-broken n octets LengthBelowHeader lt w = w.1
wrong-broken n octets PastEnd lt w = w.1
wrong-broken n octets TooMany lt w = omega arith
wrong-broken n octets TooDeep lt w = w

-- which fault comes at the front, by a test
fault_at : ℕ → List ℕ → Result One FaultCode
fault_at before octets = cond (eqb before 128) (Err TooMany) (avp_at octets)

wrong_at : (before : ℕ) (octets : List ℕ) (code : FaultCode) → Wrong before octets code → fault_at before octets ≡ Err code
unfolding fault_at
wrong_at before octets TooMany w = rw (eq-eqb before 128 w) refl
wrong_at before octets ShortHeader w = rw (ne_eqb before 128 (λ e. omega arith)) (broken_again octets ShortHeader w.1)
wrong_at before octets LengthBelowHeader w = rw (ne_eqb before 128 (λ e. omega arith)) (broken_again octets LengthBelowHeader w.1)
wrong_at before octets PastEnd w = rw (ne_eqb before 128 (λ e. omega arith)) (broken_again octets PastEnd w.1)
wrong_at before octets TooDeep w = absurd w

wrong-le : (n : ℕ) (octets : List ℕ) (code : FaultCode) → Wrong n octets code → n ≤ 128
wrong-le n octets TooMany w = omega arith
wrong-le n octets ShortHeader w = omega arith
wrong-le n octets LengthBelowHeader w = omega arith
wrong-le n octets PastEnd w = omega arith
wrong-le n octets TooDeep w = absurd w

-- where an AVP stands, nothing is wrong
not_wrong : (n : ℕ) (octets : List ℕ) (code : FaultCode) (a : Avp) (rest : List ℕ) → n < 128 → AvpThen octets a rest → Wrong n octets code → ⊥
not_wrong n octets code a rest lt t w = not_broken octets a rest code t (wrong-broken n octets code lt w)

abbrev found : One → Result One FaultCode
found x = Ok x

abbrev pub listed : List Avp → Result (List Avp) AvpFault
listed l = Ok l

abbrev pub faulty : AvpFault → Result (List Avp) AvpFault
faulty f = Err f

-- one AVP stands at the front, and one rest after it
pub same_first : (octets : List ℕ) (a b : Avp) (x y : List ℕ) → AvpThen octets a x → AvpThen octets b y → (a ≡ b) × (x ≡ y)
same_first octets a b x y s t =
    let p = avp_again octets a x s in
    let q = avp_again octets b y t in
    let e : found (a, x) ≡ found (b, y) = cc in
    (ap (λ (r : Result One FaultCode). elim r [ Ok o ↦ o.0 | Err k ↦ a ]) e, ap (λ (r : Result One FaultCode). elim r [ Ok o ↦ o.1 | Err k ↦ x ]) e)

-- no AVP is at the front of no octets
pub starts : (a : Avp) (next octets : List ℕ) → octets ≡ [] → AvpThen octets a next → ⊥
starts a next octets e t = omega (arith, shorter octets a next t, ap length e)

-- the AVP at the front is the first of the list, and the rest of the list follows
pub next_first : (octets : List ℕ) (a : Avp) (rest : List ℕ) (list : List Avp) → AvpThen octets a rest → Avps octets list → (Some a ≡ slice_get list 0) × Avps rest (drop 1 list)
next_first octets a rest [] t h = absurd (starts a rest octets h t)
next_first octets a rest (b ∷ list) t h =
    let s = same_first octets a b rest h.0 t h.1 in
    let first = s.0 in
    (cc, subst (λ (o : List ℕ). Avps o list) (sym s.1) h.2)

-- where none is at the front, the list is empty
pub next_none : (octets : List ℕ) (code : FaultCode) (list : List Avp) → Broken octets code → Avps octets list → (None ≡ slice_get list 0) × Avps octets (drop 1 list)
next_none octets code [] w h = (refl, h)
next_none octets code (b ∷ list) w h = absurd (not_broken octets b h.0 code h.1 w)

pub same_lists : (xs ys : List Avp) (octets : List ℕ) → Avps octets xs → Avps octets ys → xs ≡ ys
same_lists [] [] octets h k = refl
same_lists [] (y ∷ ys) octets h k = absurd (starts y k.0 octets h k.1)
same_lists (x ∷ xs) [] octets h k = absurd (starts x h.0 octets k h.1)
same_lists (x ∷ xs) (y ∷ ys) octets h k =
    let e = same_first octets x y h.0 k.0 h.1 k.1 in
    let f : xs ≡ ys = same_lists xs ys h.0 h.2 (subst (λ (o : List ℕ). Avps o ys) (sym e.1) k.2) in
    let g = e.0 in
    cc

-- a list leaves no room for a fault
no_fault : (list before : List Avp) (octets left : List ℕ) (code : FaultCode) (n m : ℕ) → m ≡ n + length before → n + length list ≤ 128 → Avps octets list → AvpsThen octets before left → 0 < length left → Wrong m left code → ⊥
no_fault [] [] octets left code n m e le h k l w = omega (arith, ap length h, ap length k)
no_fault [] (y ∷ ys) octets left code n m e le h k l w = starts y k.0 octets h k.1
no_fault (x ∷ xs) [] octets left code n m e le h k l w =
    not_wrong m left code x h.0 (omega arith) (subst (λ (o : List ℕ). AvpThen o x h.0) k h.1) w
no_fault (x ∷ xs) (y ∷ ys) octets left code n m e le h k l w =
    let s = same_first octets x y h.0 k.0 h.1 k.1 in
    no_fault xs ys k.0 left code (n + 1) m (omega arith) (omega arith) (subst (λ (o : List ℕ). Avps o xs) s.1 h.2) k.2 l w

-- there is one place of a fault, and one code
same_faults : (xs ys : List Avp) (octets left left' : List ℕ) (code code' : FaultCode) (n m m' : ℕ) → m ≡ n + length xs → m' ≡ n + length ys
    → AvpsThen octets xs left → AvpsThen octets ys left' → Wrong m left code → Wrong m' left' code' → (left ≡ left') × (code ≡ code')
same_faults [] [] octets left left' code code' n m m' e e' h k w w' =
    let same : left ≡ left' = cc in
    let count : m ≡ m' = omega arith in
    let one = wrong_at m left code w in
    let two = wrong_at m' left' code' w' in
    (same, cc)
same_faults [] (y ∷ ys) octets left left' code code' n m m' e e' h k w w' =
    absurd (not_wrong m left code y k.0 (omega (arith, wrong-le m' left' code' w')) (subst (λ (o : List ℕ). AvpThen o y k.0) h k.1) w)
same_faults (x ∷ xs) [] octets left left' code code' n m m' e e' h k w w' =
    absurd (not_wrong m' left' code' x h.0 (omega (arith, wrong-le m left code w)) (subst (λ (o : List ℕ). AvpThen o x h.0) k h.1) w')
same_faults (x ∷ xs) (y ∷ ys) octets left left' code code' n m m' e e' h k w w' =
    let s = same_first octets x y h.0 k.0 h.1 k.1 in
    same_faults xs ys k.0 left left' code code' (n + 1) m m' (omega arith) (omega arith) (subst (λ (o : List ℕ). AvpsThen o xs left) s.1 h.2) k.2 w w'

same_fault : (f g : AvpFault) → f.at ≡ g.at → f.code ≡ g.code → f ≡ g
same_fault f g p q = let made : (a : ℕ) (k : FaultCode) → AvpFault = λ a k. record { at = a; code = k } in ap (λ (a : ℕ). made a f.code) p ∙ ap (λ (k : FaultCode). made g.at k) q

same_at : (octets : List ℕ) (f g : AvpFault) → WrongAt octets f.at f.code → WrongAt octets g.at g.code → f ≡ g
same_at octets f g p q =
    let s = same_faults p.before q.before octets p.left q.left f.code g.code 0 (length p.before) (length q.before) (omega arith) (omega arith) p.whole q.whole p.wrong q.wrong in
    let at : f.at ≡ g.at = omega (arith, p.place, q.place, ap length s.0) in
    same_fault f g at s.1

pub one_reading : (octets : List ℕ) (depth : ℕ) (x y : Result (List Avp) AvpFault) → IsReading octets depth x → IsReading octets depth y → y ≡ x
one_reading octets depth (Ok x) (Ok y) h k = ap listed (same_lists y x octets k.2 h.2)
one_reading octets depth (Ok x) (Err g) h (inl k) = absurd (omega arith)
one_reading octets depth (Ok x) (Err g) h (inr k) = absurd (no_fault x k.1.before octets k.1.left g.code 0 (length k.1.before) (omega arith) (omega arith) h.2 k.1.whole k.1.more k.1.wrong)
one_reading octets depth (Err f) (Ok y) (inl h) k = absurd (omega arith)
one_reading octets depth (Err f) (Ok y) (inr h) k = absurd (no_fault y h.1.before octets h.1.left f.code 0 (length h.1.before) (omega arith) (omega arith) k.2 h.1.whole h.1.more h.1.wrong)
one_reading octets depth (Err f) (Err g) (inl h) (inl k) = ap faulty (same_fault g f (cc) (cc))
one_reading octets depth (Err f) (Err g) (inl h) (inr k) = absurd (omega arith)
one_reading octets depth (Err f) (Err g) (inr h) (inl k) = absurd (omega arith)
one_reading octets depth (Err f) (Err g) (inr h) (inr k) = ap faulty (same_at octets g f k.1 h.1)
