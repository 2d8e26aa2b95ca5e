-- The AVPs of octets as `avps_in` gives them: `(avps_in octets).0` is the list, `(avps_in octets).1` what is left.
-- `avps_in` stays shut: cite these laws. `IsLeftOver left` says that nothing is left, or a broken AVP.
--
-- For any octets: avps_in-nil, avps_in-more (an AVP stands at the front), avps_in-broken (a broken one does), avps_in-none,
-- avps_in-append (AVPs stand before).
-- Against the definition: avps_in-whole and avps_in-all (for bytes), avps_in-only (nothing else is so), avps_in-encoding.
-- Of what was read from bytes: avps_in-numbers, avps_in-not_zero, avps_in-short, avps_in-bytes, avps_in-left_bytes,
-- and avps_in-room, encoding-room: encoded again, the AVPs take no more room than before, padding counted.
-- The same of `AvpsThen octets list left` alone: AvpsThen-numbers, AvpsThen-not_zero, AvpsThen-short, AvpsThen-bytes, AvpsThen-room.
-- Of any list whose data are bytes: encoded-bytes, encoding-bytes.
use Rattle.std.proofs.Common.{◌≡◌, ◌⊎◌, ℕ, zero, suc, ◌+◌, ◌-◌, ◌<◌, ◌≤◌, ◌^◌, Bool, true, false, List, [], ◌∷◌, ◌++◌, length, replicate, slice_index, Option, Some, None, All, Result, Ok, Err, refl, sym, ap, subst, ◌∙◌, arith, inl, inr}
use Rattle.std.specs.Prelude.{IfSome}
use Rattle.std.proofs.lemmas.List.{length-append, length-drop}
use Rattle.std.proofs.lemmas.List.Elements.{All-nil, All-cons, All-head, All-tail}
use Rattle.byteorder.specs.Endian.{big_bytes}
use Rattle.dia_avp.specs.declared.avp.Avp.{Avp}
use Rattle.dia_avp.specs.declared.fault.FaultCode.{FaultCode}
use Rattle.dia_avp.specs.declared.fault.FaultCode.TheVariants.{ShortHeader}
use Rattle.dia_avp.specs.Encoding.{padded, header, vendor_id, has_vendor, flags_of, length_of, encoded, encoding}
use Rattle.dia_avp.specs.Avps.{has_flag, vendor_of, IsVendor, AvpThen, AvpsThen, Avps, Broken, IsLeftOver, header_len, length_field}
use Rattle.dia_avp.specs.Reading.{avp_at, parted, avps_in}
use Rattle.dia_avp.specs.Writing.{HasNumbers, NoZeroVendor}
use Rattle.dia_avp.proofs.Bytes.{IsBytes, IsBytes-nil, IsBytes-cons, IsBytes-append, IsBytes-left, IsBytes-right, IsBytes-zeros, IsBytes-big_bytes}
use Rattle.dia_avp.proofs.OneLaws.{whole_at, at_least_8, le_padded, avp_takes, avp_again}
use Rattle.dia_avp.proofs.ListLaws.{broken_takes, broken_again}
use Rattle.dia_avp.proofs.Encoded.{length_encoded, Avps-encoding}

abbrev pub Parts : Type 0
Parts = List Avp × List ℕ

abbrev Front : Type 0
Front = Result (Avp × List ℕ) FaultCode

-- one step of reading
parted-read : (n : ℕ) (octets : List ℕ) (a : Avp) (rest : List ℕ) → avp_at octets ≡ Ok (a, rest) → parted (suc n) octets ≡ (a ∷ (parted n rest).0, (parted n rest).1)
unfolding parted
parted-read n octets a rest e = rw (e, parted) refl

parted-refused : (n : ℕ) (octets : List ℕ) (code : FaultCode) → avp_at octets ≡ Err code → parted n octets ≡ ([], octets)
unfolding parted
parted-refused zero octets code e = refl
parted-refused (suc n) octets code e = rw (e, parted) refl

-- what comes after an AVP is shorter
rest-shorter : (octets : List ℕ) (a : Avp) (rest : List ℕ) → avp_at octets ≡ Ok (a, rest) → length rest < length octets
rest-shorter octets a rest e =
    let w = whole_at octets (a, rest) e in
    let eight : 8 ≤ header_len octets = at_least_8 (has_flag 128 (slice_index octets 4)) in
    omega (arith, w.header_there, w.over_header, le_padded (length_field octets), length-drop (padded (length_field octets)) octets, ap (λ (x : Avp × List ℕ). length x.1) w.is)

-- the number of steps does not count, where there are enough
parted-from : (r : Front) (n m : ℕ) (octets : List ℕ) → avp_at octets ≡ r → length octets ≤ n → length octets ≤ m → parted n octets ≡ parted m octets
parted-from (Ok x) zero m octets e p q = absurd (omega (arith, rest-shorter octets x.0 x.1 e))
parted-from (Ok x) (suc n) zero octets e p q = absurd (omega (arith, rest-shorter octets x.0 x.1 e))
parted-from (Ok x) (suc n) (suc m) octets e p q =
    let lt = rest-shorter octets x.0 x.1 e in
    let same : parted n x.1 ≡ parted m x.1 = parted-from (avp_at x.1) n m x.1 refl (omega arith) (omega arith) in
    parted-read n octets x.0 x.1 e ∙ ap (λ (p : Parts). (x.0 ∷ p.0, p.1)) same ∙ sym (parted-read m octets x.0 x.1 e)
parted-from (Err code) n m octets e p q = parted-refused n octets code e ∙ sym (parted-refused m octets code e)

parted-more : (n : ℕ) (octets : List ℕ) (a : Avp) (rest : List ℕ) → avp_at octets ≡ Ok (a, rest) → length octets ≤ n → parted n octets ≡ (a ∷ (parted (length rest) rest).0, (parted (length rest) rest).1)
parted-more zero octets a rest e le = absurd (omega (arith, rest-shorter octets a rest e))
parted-more (suc n) octets a rest e le =
    let lt = rest-shorter octets a rest e in
    let same : parted n rest ≡ parted (length rest) rest = parted-from (avp_at rest) n (length rest) rest refl (omega arith) (omega arith) in
    parted-read n octets a rest e ∙ ap (λ (p : Parts). (a ∷ p.0, p.1)) same

-- where an AVP is read at the front, it is the first, and those of the rest follow
pub avps_in-read : (octets : List ℕ) (a : Avp) (rest : List ℕ) → avp_at octets ≡ Ok (a, rest) → avps_in octets ≡ (a ∷ (avps_in rest).0, (avps_in rest).1)
unfolding avps_in
avps_in-read octets a rest e = parted-more (length octets) octets a rest e (omega arith)

-- where none is read, all is left
pub avps_in-refused : (octets : List ℕ) (code : FaultCode) → avp_at octets ≡ Err code → avps_in octets ≡ ([], octets)
unfolding avps_in
avps_in-refused octets code e = parted-refused (length octets) octets code e

-- no octets are no AVPs
pub avps_in-nil : avps_in [] ≡ ([], [])
avps_in-nil = avps_in-refused [] ShortHeader (broken_again [] ShortHeader (omega arith))

-- an AVP at the front is the first, and those of the rest follow
pub avps_in-more : (octets : List ℕ) (a : Avp) (rest : List ℕ) → AvpThen octets a rest → avps_in octets ≡ (a ∷ (avps_in rest).0, (avps_in rest).1)
avps_in-more octets a rest t = avps_in-read octets a rest (avp_again octets a rest t)

-- behind a broken AVP nothing is read
pub avps_in-broken : (octets : List ℕ) (code : FaultCode) → Broken octets code → avps_in octets ≡ ([], octets)
avps_in-broken octets code w = avps_in-refused octets code (broken_again octets code w)

avps_in-left : (octets : List ℕ) → IsLeftOver octets → avps_in octets ≡ ([], octets)
avps_in-left octets (inl e) = rw e avps_in-nil
avps_in-left octets (inr w) = avps_in-broken octets w.0 w.1

-- no other AVPs are there, and nothing else is left
pub avps_in-only : (octets : List ℕ) (list : List Avp) (left : List ℕ) → AvpsThen octets list left → IsLeftOver left → avps_in octets ≡ (list, left)
avps_in-only octets [] left h over = rw h (avps_in-left left over)
avps_in-only octets (a ∷ list) left h over =
    let e : avps_in h.0 ≡ (list, left) = avps_in-only h.0 list left h.2 over in
    avps_in-more octets a h.0 h.1 ∙ rw e refl

-- the AVPs that come before, and then those of what is left
pub avps_in-append : (octets : List ℕ) (before : List Avp) (left : List ℕ) → AvpsThen octets before left → avps_in octets ≡ (before ++ (avps_in left).0, (avps_in left).1)
avps_in-append octets [] left h = rw h refl
avps_in-append octets (a ∷ before) left h =
    let e : avps_in h.0 ≡ (before ++ (avps_in left).0, (avps_in left).1) = avps_in-append h.0 before left h.2 in
    avps_in-more octets a h.0 h.1 ∙ rw e refl

none-from : (octets : List ℕ) (r : Front) → avp_at octets ≡ r → (0 < length (avps_in octets).0) ⊎ (avps_in octets ≡ ([], octets))
none-from octets (Ok x) e = inl (rw (avps_in-read octets x.0 x.1 e) (omega arith))
none-from octets (Err code) e = inr (avps_in-refused octets code e)

-- there is an AVP, or all is left
pub avps_in-none : (octets : List ℕ) → (0 < length (avps_in octets).0) ⊎ (avps_in octets ≡ ([], octets))
avps_in-none octets = none-from octets (avp_at octets) refl

-- the octets are the AVPs that are read, and what is left, which is left over
abbrev pub IsWhole : List ℕ → Parts → Type 0
IsWhole octets p = AvpsThen octets p.0 p.1 × IsLeftOver p.1

whole-from : (r : Front) (n : ℕ) (octets : List ℕ) → avp_at octets ≡ r → IsBytes octets → length octets ≤ n → IsWhole octets (avps_in octets)
whole-from (Ok x) zero octets e fits p = absurd (omega (arith, rest-shorter octets x.0 x.1 e))
whole-from (Ok x) (suc n) octets e fits p =
    let lt = rest-shorter octets x.0 x.1 e in
    let t = avp_takes octets x fits e in
    let w = whole-from (avp_at x.1) n x.1 refl t.1 (omega arith) in
    subst (IsWhole octets) (sym (avps_in-read octets x.0 x.1 e)) ((x.1, t.0, w.0), w.1)
whole-from (Err code) n octets e fits p = subst (IsWhole octets) (sym (avps_in-refused octets code e)) (refl, inr (code, broken_takes octets code e))

-- the octets are the AVPs that are read, and then what is left: nothing, or a broken AVP and all behind it
pub avps_in-whole : (octets : List ℕ) → IsBytes octets → AvpsThen octets (avps_in octets).0 (avps_in octets).1 × IsLeftOver (avps_in octets).1
avps_in-whole octets fits = whole-from (avp_at octets) (length octets) octets refl fits (omega arith)

-- where nothing is left, the octets are the AVPs
pub avps_in-all : (octets : List ℕ) → IsBytes octets → (avps_in octets).1 ≡ [] → Avps octets (avps_in octets).0
avps_in-all octets fits e = subst (λ (left : List ℕ). AvpsThen octets (avps_in octets).0 left) e (avps_in-whole octets fits).0

-- an encoding is read back
pub avps_in-encoding : (list : List Avp) → All HasNumbers list → All (λ a. length_of a < 2 ^ 24) list → NoZeroVendor list → avps_in (encoding list) ≡ (list, [])
avps_in-encoding list numbers short some = avps_in-only (encoding list) list [] (Avps-encoding list numbers short some) (inl refl)

-- what a Vendor-ID says: its number fits, it is not 0, and it is written in no more octets
number-fits : (n : ℕ) → n < 2 ^ 32 → IfSome (vendor_of n) (λ m. m < 2 ^ 32)
number-fits zero lt = tt
number-fits (suc n) lt = lt

number-some : (n : ℕ) → vendor_of n ≡ Some 0 → ⊥
number-some zero e = cc
number-some (suc n) e = let p : suc n ≡ 0 = cc in omega arith

number-len : (n : ℕ) → length (vendor_id (vendor_of n)) ≤ 4
number-len zero = omega arith
number-len (suc n) = omega arith

vendor-fits : (b : Bool) (id : List ℕ) (v : Option ℕ) → IsVendor b id v → IfSome v (λ n. n < 2 ^ 32)
vendor-fits false id v h = rw h.1 tt
vendor-fits true id v h = rw h.3 (number-fits h.0 h.1)

vendor-some : (b : Bool) (id : List ℕ) (v : Option ℕ) → IsVendor b id v → v ≡ Some 0 → ⊥
vendor-some false id v h e = let p = h.1 in cc
vendor-some true id v h e = number-some h.0 (sym h.3 ∙ e)

vendor-len : (b : Bool) (id : List ℕ) (v : Option ℕ) → IsVendor b id v → length (vendor_id v) ≤ length id
vendor-len false id v h = rw h.1 (omega arith)
vendor-len true id v h = rw (h.3, h.2) (number-len h.0)

-- an AVP that stands in octets is written in no more octets than it has there, where others follow
AvpThen-len : (octets : List ℕ) (a : Avp) (rest : List ℕ) → (t : AvpThen octets a rest) → length_of a ≤ t.len
unfolding length_of
AvpThen-len octets a rest t = omega (arith, t.len_is, vendor-len (has_flag 128 t.flags) t.id a.vendor t.vendor)

AvpThen-bytes : (octets : List ℕ) (a : Avp) (rest : List ℕ) → IsBytes octets → AvpThen octets a rest → IsBytes a.octets × IsBytes rest
AvpThen-bytes octets a rest fits t =
    let hd = header a.code t.flags t.len in
    let all : IsBytes (hd ++ (t.id ++ (a.octets ++ (t.padding ++ rest)))) = subst IsBytes t.joined fits in
    let content = IsBytes-right t.id (a.octets ++ (t.padding ++ rest)) (IsBytes-right hd (t.id ++ (a.octets ++ (t.padding ++ rest))) all) in
    (IsBytes-left a.octets (t.padding ++ rest) content, IsBytes-right t.padding rest (IsBytes-right a.octets (t.padding ++ rest) content))

-- the AVPs of octets: their numbers fit
pub AvpsThen-numbers : (octets : List ℕ) (list : List Avp) (left : List ℕ) → AvpsThen octets list left → All HasNumbers list
AvpsThen-numbers octets [] left h = All-nil HasNumbers
AvpsThen-numbers octets (a ∷ list) left h =
    All-cons HasNumbers a list (record { code = h.1.code_fits; vendor = vendor-fits (has_flag 128 h.1.flags) h.1.id a.vendor h.1.vendor }) (AvpsThen-numbers h.0 list left h.2)

abbrev pub IsSome : Avp → Type 0
IsSome a = a.vendor ≡ Some 0 → ⊥

-- no vendor is 0
pub AvpsThen-not_zero : (octets : List ℕ) (list : List Avp) (left : List ℕ) → AvpsThen octets list left → NoZeroVendor list
AvpsThen-not_zero octets [] left h = All-nil IsSome
AvpsThen-not_zero octets (a ∷ list) left h = All-cons IsSome a list (vendor-some (has_flag 128 h.1.flags) h.1.id a.vendor h.1.vendor) (AvpsThen-not_zero h.0 list left h.2)

abbrev pub IsShort : Avp → Type 0
IsShort a = length_of a < 2 ^ 24

-- their lengths fit 24 bits
pub AvpsThen-short : (octets : List ℕ) (list : List Avp) (left : List ℕ) → AvpsThen octets list left → All (λ a. length_of a < 2 ^ 24) list
AvpsThen-short octets [] left h = All-nil IsShort
AvpsThen-short octets (a ∷ list) left h = All-cons IsShort a list (omega (arith, AvpThen-len octets a h.0 h.1, h.1.len_fits)) (AvpsThen-short h.0 list left h.2)

abbrev pub HasBytes : Avp → Type 0
HasBytes a = IsBytes a.octets

-- their data are bytes, and so is what is left
pub AvpsThen-bytes : (octets : List ℕ) (list : List Avp) (left : List ℕ) → IsBytes octets → AvpsThen octets list left → All (λ a. IsBytes a.octets) list × IsBytes left
AvpsThen-bytes octets [] left fits h = (All-nil HasBytes, subst IsBytes h fits)
AvpsThen-bytes octets (a ∷ list) left fits h =
    let one = AvpThen-bytes octets a h.0 fits h.1 in
    let more = AvpsThen-bytes h.0 list left one.1 h.2 in
    (All-cons HasBytes a list one.0 more.0, more.1)

-- the octets that an AVP has there, and those that follow
AvpThen-octets : (octets : List ℕ) (a : Avp) (rest : List ℕ) → (t : AvpThen octets a rest) → length octets ≡ t.len + length t.padding + length rest
AvpThen-octets octets a rest t =
    let hd = header a.code t.flags t.len in
    let hd_len : length hd ≡ 8 = refl in
    omega (arith, t.len_is, ap length t.joined, length-append hd (t.id ++ (a.octets ++ (t.padding ++ rest))), length-append t.id (a.octets ++ (t.padding ++ rest)), length-append a.octets (t.padding ++ rest), length-append t.padding rest)

-- an AVP, encoded, and what follows it take no more room
AvpThen-room : (octets : List ℕ) (a : Avp) (rest : List ℕ) → AvpThen octets a rest → length (encoded a) + padded (length rest) ≤ padded (length octets)
AvpThen-room octets a [] t = omega (arith, AvpThen-octets octets a [] t, length_encoded a, AvpThen-len octets a [] t)
AvpThen-room octets a (x ∷ rest) t =
    let whole : t.len + length t.padding ≡ padded t.len = t.padding_whole (λ e. cc) in
    omega (arith, AvpThen-octets octets a (x ∷ rest) t, length_encoded a, AvpThen-len octets a (x ∷ rest) t)

-- encoded again, the AVPs and what is left take no more room than the octets and their padding
pub AvpsThen-room : (octets : List ℕ) (list : List Avp) (left : List ℕ) → AvpsThen octets list left → length (encoding list) + length left ≤ padded (length octets)
AvpsThen-room octets [] left h = omega (arith, ap length h, le_padded (length octets))
AvpsThen-room octets (a ∷ list) left h =
    omega (arith, AvpThen-room octets a h.0 h.1, AvpsThen-room h.0 list left h.2, length-append (encoded a) (encoding list))

-- The same of what is read from bytes.
pub avps_in-numbers : (octets : List ℕ) → IsBytes octets → All HasNumbers (avps_in octets).0
avps_in-numbers octets fits = AvpsThen-numbers octets (avps_in octets).0 (avps_in octets).1 (avps_in-whole octets fits).0

pub avps_in-not_zero : (octets : List ℕ) → IsBytes octets → NoZeroVendor (avps_in octets).0
avps_in-not_zero octets fits = AvpsThen-not_zero octets (avps_in octets).0 (avps_in octets).1 (avps_in-whole octets fits).0

pub avps_in-short : (octets : List ℕ) → IsBytes octets → All (λ a. length_of a < 2 ^ 24) (avps_in octets).0
avps_in-short octets fits = AvpsThen-short octets (avps_in octets).0 (avps_in octets).1 (avps_in-whole octets fits).0

pub avps_in-bytes : (octets : List ℕ) → IsBytes octets → All (λ a. IsBytes a.octets) (avps_in octets).0
avps_in-bytes octets fits = (AvpsThen-bytes octets (avps_in octets).0 (avps_in octets).1 fits (avps_in-whole octets fits).0).0

pub avps_in-left_bytes : (octets : List ℕ) → IsBytes octets → IsBytes (avps_in octets).1
avps_in-left_bytes octets fits = (AvpsThen-bytes octets (avps_in octets).0 (avps_in octets).1 fits (avps_in-whole octets fits).0).1

pub avps_in-room : (octets : List ℕ) → IsBytes octets → length (encoding (avps_in octets).0) + length (avps_in octets).1 ≤ padded (length octets)
avps_in-room octets fits = AvpsThen-room octets (avps_in octets).0 (avps_in octets).1 (avps_in-whole octets fits).0

-- a list that was read and encoded again takes no more room than its octets and their padding
pub encoding-room : (octets : List ℕ) (list : List Avp) (left : List ℕ) → IsBytes octets → avps_in octets ≡ (list, left) → length (encoding list) ≤ padded (length octets)
encoding-room octets list left fits e = omega (arith, avps_in-room octets fits, ap (λ (p : Parts). length (encoding p.0)) e)

flags-lt : (v m p : Bool) → flags_of v m p < 256
flags-lt true true true = omega arith
flags-lt true true false = omega arith
flags-lt true false true = omega arith
flags-lt true false false = omega arith
flags-lt false true true = omega arith
flags-lt false true false = omega arith
flags-lt false false true = omega arith
flags-lt false false false = omega arith

vendor-bytes : (v : Option ℕ) → IsBytes (vendor_id v)
vendor-bytes None = IsBytes-nil
vendor-bytes (Some zero) = IsBytes-nil
vendor-bytes (Some (suc n)) = IsBytes-big_bytes 4 (suc n)

header-bytes : (code flags len : ℕ) → flags < 256 → IsBytes (header code flags len)
header-bytes code flags len lt = IsBytes-append (big_bytes 4 code) (flags ∷ big_bytes 3 len) (IsBytes-big_bytes 4 code) (IsBytes-cons flags (big_bytes 3 len) lt (IsBytes-big_bytes 3 len))

-- an encoding of data that are bytes is bytes
pub encoded-bytes : (a : Avp) → IsBytes a.octets → IsBytes (encoded a)
unfolding encoded
encoded-bytes a fits =
    let hd = header a.code (flags_of (has_vendor a.vendor) a.mandatory a.protected) (length_of a) in
    let pad : List ℕ = replicate (padded (length_of a) - length_of a) 0 in
    let front = IsBytes-append hd (vendor_id a.vendor) (header-bytes a.code (flags_of (has_vendor a.vendor) a.mandatory a.protected) (length_of a) (flags-lt (has_vendor a.vendor) a.mandatory a.protected)) (vendor-bytes a.vendor) in
    IsBytes-append ((hd ++ vendor_id a.vendor) ++ a.octets) pad (IsBytes-append (hd ++ vendor_id a.vendor) a.octets front fits) (IsBytes-zeros (padded (length_of a) - length_of a))

pub encoding-bytes : (list : List Avp) → All (λ a. IsBytes a.octets) list → IsBytes (encoding list)
encoding-bytes [] h = IsBytes-nil
encoding-bytes (a ∷ list) h = IsBytes-append (encoded a) (encoding list) (encoded-bytes a (All-head HasBytes a list h)) (encoding-bytes list (All-tail HasBytes a list h))
