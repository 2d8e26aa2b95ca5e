-- `whole_len` finds a message at the front, and each message that is there.
use Rattle.std.proofs.Common.{◌≡◌, ℕ, suc, ◌+◌, ◌≤◌, ◌%◌, Bool, true, false, ltb, eqb, not, List, [], ◌∷◌, ◌++◌, length, take, drop, get_or, Option, Some, None, cond, refl, sym, ap, subst, ◌∙◌, arith}
use Rattle.std.specs.Prelude.{is_some, ◌||◌, ◌==◌}
use Rattle.std.proofs.lemmas.Bool.Decides.{nat_tests}
use Rattle.std.proofs.lemmas.Bool.{le-ltb, ltb-false, ltb-true, not-false, eq-eqb, eqb-true}
use Rattle.std.proofs.lemmas.List.{length-append, length-take-le, get_or-take, get_or-drop, get_or_append_left, take_at, drop_at}
use Rattle.byteorder.specs.Endian.{big_number}
use Rattle.dia_frame.specs.declared.fault.FrameFault.{FrameFault}
use Rattle.dia_frame.specs.declared.fault.FrameFault.TheVariants.{Version, Length, Broken}
use Rattle.dia_frame.specs.Frames.{IsMessage, message_length, is_bad_length, fault_of}
use Rattle.dia_frame.specs.Whole.{whole_len, room_of}

both_false : (a b : Bool) → (a || b) ≡ false → (a ≡ false) × (b ≡ false)
both_false true b e = absurd cc
both_false false b e = (refl, e)

-- what both tests of `whole_len` said where it finds a length
both_passed : (a b : Bool) (n len : ℕ) → cond a None (cond b None (Some n)) ≡ Some len → (a ≡ false) × (b ≡ false) × (n ≡ len)
both_passed true b n len e = absurd cc
both_passed false true n len e = absurd cc
both_passed false false n len e = (refl, refl, cc)

-- what the tests of `fault_of` said where there is no fault
no_fault : (a b c : Bool) → is_some (cond a (Some Version) (cond b None (cond c (Some Length) None))) ≡ false → (a ≡ false) × (b ≡ false → c ≡ false)
no_fault true b c e = absurd cc
no_fault false true c e = (refl, λ h. absurd cc)
no_fault false false true e = absurd cc
no_fault false false false e = (refl, λ h. refl)

-- a length that a message may have
pub record IsLength (limit n : ℕ) : Type 0 where
  pub least : 20 ≤ n
  pub fours : n % 4 ≡ 0
  pub most : n ≤ limit

IsLength-from_test : (limit n : ℕ) → is_bad_length limit n ≡ false → IsLength limit n
IsLength-from_test limit n e =
    let p = both_false (ltb n 20 || not (eqb (n % 4) 0)) (ltb limit n) e in
    let q = both_false (ltb n 20) (not (eqb (n % 4) 0)) p.0 in
    record { least = ltb-false _ _ q.0; fours = eqb-true _ _ (not-false _ q.1); most = ltb-false _ _ p.1 }

is_bad_length-false : (limit n : ℕ) → IsLength limit n → is_bad_length limit n ≡ false
is_bad_length-false limit n h = rw (le-ltb n 20 h.least, eq-eqb (n % 4) 0 h.fours, le-ltb limit n h.most) refl

-- The length stands in the first four octets.
message_length-take : (n : ℕ) (octets : List ℕ) → 4 ≤ n → message_length (take n octets) ≡ message_length octets
message_length-take n octets h =
    let a : get_or (drop 1 (take n octets)) 0 0 ≡ get_or (drop 1 octets) 0 0 = rw (get_or-drop 1 (take n octets) 0 0, get_or-drop 1 octets 0 0) (get_or-take n octets 1 0 (omega arith)) in
    let b : get_or (drop 1 (take n octets)) 1 0 ≡ get_or (drop 1 octets) 1 0 = rw (get_or-drop 1 (take n octets) 1 0, get_or-drop 1 octets 1 0) (get_or-take n octets 2 0 (omega arith)) in
    let c : get_or (drop 1 (take n octets)) 2 0 ≡ get_or (drop 1 octets) 2 0 = rw (get_or-drop 1 (take n octets) 2 0, get_or-drop 1 octets 2 0) (get_or-take n octets 3 0 (omega arith)) in
    cc

message_length-append : (m after : List ℕ) → 4 ≤ length m → message_length (m ++ after) ≡ message_length m
message_length-append m after h =
    let a : get_or (drop 1 (m ++ after)) 0 0 ≡ get_or (drop 1 m) 0 0 = rw (get_or-drop 1 (m ++ after) 0 0, get_or-drop 1 m 0 0) (get_or_append_left m after 0 1 (omega arith)) in
    let b : get_or (drop 1 (m ++ after)) 1 0 ≡ get_or (drop 1 m) 1 0 = rw (get_or-drop 1 (m ++ after) 1 0, get_or-drop 1 m 1 0) (get_or_append_left m after 0 2 (omega arith)) in
    let c : get_or (drop 1 (m ++ after)) 2 0 ≡ get_or (drop 1 m) 2 0 = rw (get_or-drop 1 (m ++ after) 2 0, get_or-drop 1 m 2 0) (get_or_append_left m after 0 3 (omega arith)) in
    cc

-- The first `len` octets are a message.
pub record Found (limit : ℕ) (octets : List ℕ) (len : ℕ) : Type 0 where
  pub message : IsMessage limit (take len octets)
  pub there : len ≤ length octets
  pub least : 20 ≤ len

pub found : (limit : ℕ) (octets : List ℕ) (len : ℕ) → whole_len limit octets ≡ Some len → Found limit octets len
found limit [] len e = absurd cc
found limit (v ∷ octets) len e =
    let t = both_passed (ltb (length (v ∷ octets)) 4 || is_some (fault_of limit (v ∷ octets))) (ltb (length (v ∷ octets)) (message_length (v ∷ octets))) (message_length (v ∷ octets)) len e in
    let p = both_false (ltb (length (v ∷ octets)) 4) (is_some (fault_of limit (v ∷ octets))) t.0 in
    let four : 4 ≤ length (v ∷ octets) = ltb-false _ _ p.0 in
    let s = no_fault (not (eqb v 1)) (ltb (length octets) 3) (is_bad_length limit (big_number 3 octets)) p.1 in
    let one : v ≡ 1 = eqb-true v 1 (not-false _ s.0) in
    let g = IsLength-from_test limit (big_number 3 octets) (s.1 (le-ltb _ _ (omega arith))) in
    let n : big_number 3 octets ≡ len = t.2 in
    let there : len ≤ length (v ∷ octets) = omega (arith, ltb-false _ _ t.1, n) in
    let own : length (take len (v ∷ octets)) ≡ len = length-take-le len (v ∷ octets) there in
    let least : 20 ≤ len = omega (arith, g.least, n) in
    record {
      message = record {
        version = get_or-take len (v ∷ octets) 0 0 (omega arith) ∙ one;
        own = message_length-take len (v ∷ octets) (omega arith) ∙ n ∙ sym own;
        least = rw own least;
        fours = rw (own, ← n) g.fours;
        most = rw (own, ← n) g.most;
      };
      there = there;
      least = least;
    }

-- `whole_len` where its tests say this
whole_len-tests : (a b c d e : Bool) (n : ℕ) → a ≡ false → b ≡ true → c ≡ false → d ≡ false → e ≡ false
    → cond (a || is_some (cond (not b) (Some Version) (cond c None (cond d (Some Length) None)))) None (cond e None (Some n)) ≡ Some n
whole_len-tests a b c d e n p q r s t = rw (p, q, r, s, t) refl

-- A message at the front is found.
whole_again : (limit : ℕ) (m after : List ℕ) → IsMessage limit m → whole_len limit (m ++ after) ≡ Some (length m)
whole_again limit [] after h = absurd (omega (arith, h.least))
whole_again limit (v ∷ m) after h =
    let own : big_number 3 (m ++ after) ≡ length (v ∷ m) = message_length-append (v ∷ m) after (omega (arith, h.least)) ∙ h.own in
    let len : length (m ++ after) ≡ length m + length after = length-append m after in
    let a : ltb (suc (length (m ++ after))) 4 ≡ false = le-ltb _ _ (omega (arith, h.least)) in
    let b : eqb v 1 ≡ true = eq-eqb v 1 h.version in
    let c : ltb (length (m ++ after)) 3 ≡ false = le-ltb _ _ (omega (arith, h.least)) in
    let d : is_bad_length limit (big_number 3 (m ++ after)) ≡ false = is_bad_length-false limit (big_number 3 (m ++ after)) (subst (IsLength limit) (sym own) (record { least = h.least; fours = h.fours; most = h.most })) in
    let e : ltb (suc (length (m ++ after))) (big_number 3 (m ++ after)) ≡ false = le-ltb _ _ (omega arith) in
    whole_len-tests (ltb (suc (length (m ++ after))) 4) (eqb v 1) (ltb (length (m ++ after)) 3) (is_bad_length limit (big_number 3 (m ++ after))) (ltb (suc (length (m ++ after))) (big_number 3 (m ++ after))) (big_number 3 (m ++ after)) a b c d e ∙ ap (λ (n : ℕ). Some n) own

-- Where none is found, none is there.
pub none_whole : (limit : ℕ) (octets : List ℕ) → whole_len limit octets ≡ None → (m after : List ℕ) → IsMessage limit m → octets ≡ m ++ after → ⊥
none_whole limit octets e m after h q =
    let a = whole_again limit m after h in
    let b : whole_len limit (m ++ after) ≡ None = ap (whole_len limit) (sym q) ∙ e in
    cc

room_cases : (a b : Bool) (len n : ℕ) → (a ≡ true → len ≤ 4) → (b ≡ true → len ≤ n) → cond (a || false) None (cond b None (Some n)) ≡ None → len ≤ cond a 4 n
room_cases true b len n f g e = f refl
room_cases false true len n f g e = g refl
room_cases false false len n f g e = absurd cc

-- octets without a fault that are no whole message fit into the room that they are given
pub room_fits : (limit : ℕ) (octets : List ℕ) → fault_of limit octets ≡ None → whole_len limit octets ≡ None → length octets ≤ room_of limit octets
room_fits limit [] f e = omega arith
room_fits limit (v ∷ octets) f e =
    let n = message_length (v ∷ octets) in
    let whole = rw f at e in
    let some : (length (v ∷ octets) == 0) ≡ false = grind (arith, nat_tests) in
    rw (some, f) (room_cases (ltb (length (v ∷ octets)) 4) (ltb (length (v ∷ octets)) n) (length (v ∷ octets)) n (λ h. omega (arith, ltb-true _ _ h)) (λ h. omega (arith, ltb-true _ _ h)) whole)

second_true : (a : Bool) (o : Option ℕ) → cond (a || true) None o ≡ None
second_true true o = refl
second_true false o = refl

not_broken : (a b c : Bool) → cond a (Some Version) (cond b None (cond c (Some Length) None)) ≡ Some Broken → ⊥
not_broken true b c e = absurd cc
not_broken false true c e = absurd cc
not_broken false false true e = absurd cc
not_broken false false false e = absurd cc

-- No octets show that the stream is broken already.
pub shows_version_or_length : (limit : ℕ) (octets : List ℕ) → fault_of limit octets ≡ Some Broken → ⊥
shows_version_or_length limit [] e = absurd cc
shows_version_or_length limit (v ∷ octets) e = not_broken (not (eqb v 1)) (ltb (length octets) 3) (is_bad_length limit (big_number 3 octets)) e

-- Where a fault is shown, no message is found.
pub no_len : (limit : ℕ) (octets : List ℕ) (fault : FrameFault) → fault_of limit octets ≡ Some fault → whole_len limit octets ≡ None
no_len limit octets fault e = rw e (second_true (ltb (length octets) 4) (cond (ltb (length octets) (message_length octets)) None (Some (message_length octets))))

-- Two messages at the front of one stream are one.
pub same_message : (limit : ℕ) (m n x y : List ℕ) → IsMessage limit m → IsMessage limit n → m ++ x ≡ n ++ y → (m ≡ n) × (x ≡ y)
same_message limit m n x y h k e =
    let l : length m ≡ length n = sym h.own ∙ sym (message_length-append m x (omega (arith, h.least))) ∙ ap message_length e ∙ message_length-append n y (omega (arith, k.least)) ∙ k.own in
    (sym (take_at m x (length m) refl) ∙ ap (take (length m)) e ∙ take_at n y (length m) (sym l), sym (drop_at m x (length m) refl) ∙ ap (drop (length m)) e ∙ drop_at n y (length m) (sym l))
