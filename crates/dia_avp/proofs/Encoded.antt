-- The encoding of AVPs: its length, and that it means these AVPs.
use Rattle.std.proofs.Common.{◌≡◌, ℕ, zero, suc, ◌+◌, ◌*◌, ◌/◌, ◌-◌, ◌<◌, ◌≤◌, ◌^◌, Bool, true, false, List, [], ◌∷◌, ◌++◌, length, take, replicate, get_or, Option, Some, None, All, refl, sym, ap, subst, ◌∙◌, arith, append_assoc}
use Rattle.std.specs.Prelude.{IfSome}
use Rattle.std.proofs.lemmas.List.{length-replicate, length-append, take_more, append-nil}
use Rattle.std.proofs.lemmas.List.Concat.{flat_map-append}
use Rattle.std.proofs.lemmas.List.Folds.{length-flat_map-take}
use Rattle.std.proofs.lemmas.List.Elements.{All-nil, All-cons, All-head, All-tail}
use Rattle.dia_avp.specs.declared.avp.Avp.{Avp}
use Rattle.dia_avp.specs.Encoding.{padded, vendor_id, has_vendor, flags_of, length_of, header, encoded, encoding, group_avp}
use Rattle.dia_avp.specs.Avps.{has_flag, IsVendor, AvpThen, Avps}
use Rattle.dia_avp.specs.Writing.{HasNumbers, NoZeroVendor}

-- an encoding has the AVP Length's octets and the padding
pub length_encoded : (a : Avp) → length (encoded a) ≡ padded (length_of a)
unfolding encoded length_of
length_encoded a =
    let len = length_of a in
    let pad : List ℕ = replicate (padded len - len) 0 in
    let hd = header a.code (flags_of (has_vendor a.vendor) a.mandatory a.protected) len in
    let hd_len : length hd ≡ 8 = refl in
    let pad_len : length pad ≡ padded len - len = length-replicate (padded len - len) 0 in
    omega (arith, length-append (hd ++ vendor_id a.vendor ++ a.octets) pad, length-append (hd ++ vendor_id a.vendor) a.octets, length-append hd (vendor_id a.vendor))

-- one AVP more
pub encoding-take : (avps : List Avp) (i : ℕ) (a : Avp) → i < length avps → a ≡ get_or avps i a → encoding (take (i + 1) avps) ≡ encoding (take i avps) ++ encoded a
encoding-take avps i a lt e =
    ap encoding (take_more avps i a lt) ∙ flat_map-append encoded (take i avps) (get_or avps i a ∷ []) ∙ rw (← e) (ap (λ (x : List ℕ). encoding (take i avps) ++ x) (append-nil (encoded a)))

-- the next AVP's octets are among those of all
pub length-encoding-next : (avps : List Avp) (i : ℕ) (a : Avp) → i < length avps → a ≡ get_or avps i a → length (encoding (take i avps)) + length (encoded a) ≤ length (encoding avps)
length-encoding-next avps i a lt e = omega (arith, length-flat_map-take encoded avps i a lt, ap (λ (x : Avp). length (encoded x)) e)

-- room for all is room for the next
pub room-next : (avps : List Avp) (i : ℕ) (a : Avp) (start out : List ℕ) (cap : ℕ) → i < length avps → a ≡ get_or avps i a → out ≡ start ++ encoding (take i avps) → length start + length (encoding avps) ≤ cap → length out + length (encoded a) ≤ cap
room-next avps i a start out cap lt e is room = omega (arith, ap length is, length-append start (encoding (take i avps)), length-encoding-next avps i a lt e)

pub length-encoding-take : (avps : List Avp) (i : ℕ) (a : Avp) → i < length avps → a ≡ get_or avps i a → length (encoding (take (i + 1) avps)) ≡ length (encoding (take i avps)) + length (encoded a)
length-encoding-take avps i a lt e = omega (arith, ap length (encoding-take avps i a lt e), length-append (encoding (take i avps)) (encoded a))

flags : (v m p : Bool) → (has_flag 128 (flags_of v m p) ≡ v) × (has_flag 64 (flags_of v m p) ≡ m) × (has_flag 32 (flags_of v m p) ≡ p)
flags true true true = (refl, refl, refl)
flags true true false = (refl, refl, refl)
flags true false true = (refl, refl, refl)
flags true false false = (refl, refl, refl)
flags false true true = (refl, refl, refl)
flags false true false = (refl, refl, refl)
flags false false true = (refl, refl, refl)
flags false false false = (refl, refl, refl)

vendor_is : (v : Option ℕ) → IfSome v (λ n. n < 2 ^ 32) → (v ≡ Some 0 → ⊥) → IsVendor (has_vendor v) (vendor_id v) v
vendor_is None fits some = (refl, refl)
vendor_is (Some zero) fits some = absurd (some refl)
vendor_is (Some (suc n)) fits some = (suc n, fits, refl, refl)

-- the encoding of an AVP means this AVP
pub AvpThen-encoded : (a : Avp) (rest : List ℕ) → HasNumbers a → length_of a < 2 ^ 24 → (a.vendor ≡ Some 0 → ⊥) → AvpThen (encoded a ++ rest) a rest
unfolding encoded length_of
AvpThen-encoded a rest n short some =
    let f = flags (has_vendor a.vendor) a.mandatory a.protected in
    let len = length_of a in
    let pad = replicate (padded len - len) 0 in
    let hd = header a.code (flags_of (has_vendor a.vendor) a.mandatory a.protected) len in
    let pad_len : length pad ≡ padded len - len = length-replicate (padded len - len) 0 in
    record {
      flags = flags_of (has_vendor a.vendor) a.mandatory a.protected;
      id = vendor_id a.vendor;
      padding = pad;
      len = len;
      len_is = refl;
      joined = append_assoc (hd ++ vendor_id a.vendor ++ a.octets) pad rest ∙ append_assoc (hd ++ vendor_id a.vendor) a.octets (pad ++ rest) ∙ append_assoc hd (vendor_id a.vendor) (a.octets ++ (pad ++ rest));
      code_fits = n.code;
      len_fits = short;
      vendor = subst (λ (b : Bool). IsVendor b (vendor_id a.vendor) a.vendor) (sym f.0) (vendor_is a.vendor n.vendor some);
      mandatory = sym f.1;
      protected = sym f.2;
      padding_fits = omega arith;
      padding_whole = λ _. omega arith;
    }

-- the encoding of a list means this list
pub Avps-encoding : (list : List Avp) → All HasNumbers list → All (λ a. length_of a < 2 ^ 24) list → NoZeroVendor list → Avps (encoding list) list
Avps-encoding [] n short some = refl
Avps-encoding (a ∷ list) n short some = (
  encoding list,
  AvpThen-encoded a (encoding list) (All-head HasNumbers a list n) (All-head (λ b. length_of b < 2 ^ 24) a list short) (All-head (λ b. b.vendor ≡ Some 0 → ⊥) a list some),
  Avps-encoding list (All-tail HasNumbers a list n) (All-tail (λ b. length_of b < 2 ^ 24) a list short) (All-tail (λ b. b.vendor ≡ Some 0 → ⊥) a list some),
)

-- an encoding's octets are fours
encoding-fours : (list : List Avp) → (k : ℕ) × (length (encoding list) ≡ k * 4)
encoding-fours [] = (0, refl)
encoding-fours (a ∷ list) =
    let more = encoding-fours list in
    ((length_of a + 3) / 4 + more.0, omega (arith, length_encoded a, more.1, length-append (encoded a) (encoding list)))

-- a group's AVP Length counts its header and its AVPs with their padding
pub length_of_group : (code : ℕ) (m p : Bool) (list : List Avp) → length_of (group_avp code m p list) ≡ 8 + length (encoding list)
unfolding length_of
length_of_group code m p list = omega arith

-- a group needs no padding
pub encoded_group : (code : ℕ) (m p : Bool) (list : List Avp) → encoded (group_avp code m p list) ≡ header code (flags_of false m p) (8 + length (encoding list)) ++ encoding list
unfolding encoded length_of
encoded_group code m p list =
    let fours = encoding-fours list in
    let none : padded (8 + length (encoding list)) - (8 + length (encoding list)) ≡ 0 = omega (arith, fours.1) in
    rw none (append-nil (header code (flags_of false m p) (8 + length (encoding list)) ++ encoding list))

pub length_encoded_group : (code : ℕ) (m p : Bool) (list : List Avp) → length (encoded (group_avp code m p list)) ≡ 8 + length (encoding list)
length_encoded_group code m p list = omega (arith, ap length (encoded_group code m p list), length-append (header code (flags_of false m p) (8 + length (encoding list))) (encoding list))

-- the AVPs of a short group are short
pub short_inner : (list : List Avp) (n : ℕ) → length (encoding list) < n → All (λ a. length_of a < n) list
short_inner [] n lt = All-nil (λ a. length_of a < n)
short_inner (a ∷ list) n lt =
    All-cons (λ b. length_of b < n) a list (omega (arith, length_encoded a, length-append (encoded a) (encoding list)))
    (short_inner list n (omega (arith, length-append (encoded a) (encoding list))))
