-- AVPs in their canonical encoding at every level: what stays as it was, that they have no fault where they had none, and that
-- they are read from their encoding again. `canonical` stays shut: cite canonical-zero, canonical-plain and canonical-group.
use Rattle.std.proofs.Common.{◌≡◌, ℕ, zero, suc, ◌+◌, ◌<◌, ◌≤◌, ◌^◌, Bool, true, false, List, [], ◌∷◌, length, map, Option, Some, None, All, refl, sym, ap, subst, ◌∙◌, arith, inl, inr}
use Rattle.std.specs.Prelude.{◌⊎◌}
use Rattle.std.proofs.lemmas.List.{length-append, length-map}
use Rattle.std.proofs.lemmas.List.Elements.{All-nil, All-cons, All-head, All-tail}
use Rattle.dia_avp.specs.declared.avp.Avp.{Avp}
use Rattle.dia_avp.specs.Reading.{avps_in}
use Rattle.dia_avp.specs.Encoding.{padded, vendor_id, length_of, encoded, encoding}
use Rattle.dia_avp.specs.Writing.{HasNumbers, NoZeroVendor}
use Rattle.dia_avp.proofs.Bytes.{IsBytes}
use Rattle.dia_avp.proofs.OneLaws.{le_padded}
use Rattle.dia_avp.proofs.Encoded.{length_encoded}
use Rattle.dia_avp.proofs.PartLaws.{HasBytes, IsShort, IsSome, avps_in-numbers, avps_in-not_zero, avps_in-bytes, avps_in-short, avps_in-encoding, avps_in-room, encoding-bytes}
use Rattle.dia_dict.specs.declared.definition.Definition.{Definition}
use Rattle.dia_dict.specs.Dictionary.{definition_of}
use Rattle.dia_tree.specs.declared.fault.MsgFault.{MsgFault}
use Rattle.dia_tree.specs.Kind.{is_group, is_grouped}
use Rattle.dia_tree.specs.Faults.{faults_by, avp_faults, group_faults, IsGood}
use Rattle.dia_tree.specs.Canonical.{canonical}
use Rattle.dia_tree.proofs.FaultLaws.{few, each_good, good_octets}

-- whether an AVP is a group
abbrev pub IsGroup : List Definition → Avp → Bool
IsGroup definitions a = is_grouped (definition_of definitions a.code a.vendor)

-- an AVP with other data
abbrev pub with_octets : Avp → List ℕ → Avp
with_octets a octets = record a { octets = octets }

-- the canonical encoding of the AVPs that octets are
abbrev pub reencoded : List Definition → ℕ → List ℕ → List ℕ
reencoded definitions n octets = encoding (map (canonical definitions n) (avps_in octets).0)

pub canonical-zero : (definitions : List Definition) (a : Avp) → canonical definitions 0 a ≡ a
unfolding canonical
canonical-zero definitions a = refl

pub canonical-group : (definitions : List Definition) (n : ℕ) (a : Avp) → IsGroup definitions a ≡ true → canonical definitions (suc n) a ≡ with_octets a (reencoded definitions n a.octets)
unfolding canonical
canonical-group definitions n a e = rw e refl

canonical-other : (definitions : List Definition) (n : ℕ) (a : Avp) → IsGroup definitions a ≡ false → canonical definitions (suc n) a ≡ a
unfolding canonical
canonical-other definitions n a e = rw e refl

pub canonical-plain : (definitions : List Definition) (n : ℕ) (a : Avp) → IsGroup definitions a ≡ false → canonical definitions n a ≡ a
canonical-plain definitions zero a e = canonical-zero definitions a
canonical-plain definitions (suc n) a e = canonical-other definitions n a e

-- an AVP's canonical form is the AVP, or where it is a group the AVP with the encoding of what it holds
by_cases : (definitions : List Definition) (n : ℕ) (a : Avp) (P : Avp → Type 0) (b : Bool) → IsGroup definitions a ≡ b → P a → (b ≡ true → P (with_octets a (reencoded definitions n a.octets))) → P (canonical definitions (suc n) a)
by_cases definitions n a P true e plain group = subst P (sym (canonical-group definitions n a e)) (group refl)
by_cases definitions n a P false e plain group = subst P (sym (canonical-other definitions n a e)) plain

-- code, vendor and flags are the same
pub record SameHead (a b : Avp) : Type 0 where
  pub code : b.code ≡ a.code
  pub vendor : b.vendor ≡ a.vendor
  pub mandatory : b.mandatory ≡ a.mandatory
  pub protected : b.protected ≡ a.protected

pub canonical_head : (definitions : List Definition) (n : ℕ) (a : Avp) → SameHead a (canonical definitions n a)
canonical_head definitions zero a = rw canonical-zero (record { code = refl; vendor = refl; mandatory = refl; protected = refl })
canonical_head definitions (suc n) a =
    by_cases definitions n a (SameHead a) (IsGroup definitions a) refl (record { code = refl; vendor = refl; mandatory = refl; protected = refl }) (λ _. record { code = refl; vendor = refl; mandatory = refl; protected = refl })

-- what holds of each AVP of a list holds of what it is made to
All-mapped : (f : Avp → Avp) (Q P : Avp → Type 0) → ((a : Avp) → Q a → P (f a)) → (list : List Avp) → All Q list → All P (map f list)
All-mapped f Q P each [] h = All-nil P
All-mapped f Q P each (a ∷ list) h = All-cons P (f a) (map f list) (each a (All-head Q a list h)) (All-mapped f Q P each list (All-tail Q a list h))

-- the numbers fit as before
pub canonical_numbers : (definitions : List Definition) (n : ℕ) (a : Avp) → HasNumbers a → HasNumbers (canonical definitions n a)
canonical_numbers definitions n a h = let s = canonical_head definitions n a in record { code = rw s.code h.code; vendor = rw s.vendor h.vendor }

pub canonicals_numbers : (definitions : List Definition) (n : ℕ) (list : List Avp) → All HasNumbers list → All HasNumbers (map (canonical definitions n) list)
canonicals_numbers definitions n list h = All-mapped (canonical definitions n) HasNumbers HasNumbers (canonical_numbers definitions n) list h

-- no vendor is 0 as before
pub canonical_not_zero : (definitions : List Definition) (n : ℕ) (a : Avp) → (a.vendor ≡ Some 0 → ⊥) → (canonical definitions n a).vendor ≡ Some 0 → ⊥
canonical_not_zero definitions n a h e = h (sym (canonical_head definitions n a).vendor ∙ e)

pub canonicals_not_zero : (definitions : List Definition) (n : ℕ) (list : List Avp) → NoZeroVendor list → NoZeroVendor (map (canonical definitions n) list)
canonicals_not_zero definitions n list h = All-mapped (canonical definitions n) IsSome IsSome (canonical_not_zero definitions n) list h

-- the data are bytes as before
pub canonical_bytes : (definitions : List Definition) (n : ℕ) (a : Avp) → IsBytes a.octets → IsBytes (canonical definitions n a).octets
canonical_bytes definitions zero a fits = rw canonical-zero fits
canonical_bytes definitions (suc n) a fits =
    by_cases definitions n a HasBytes (IsGroup definitions a) refl fits
    (λ _. encoding-bytes (map (canonical definitions n) (avps_in a.octets).0) (All-mapped (canonical definitions n) HasBytes HasBytes (canonical_bytes definitions n) (avps_in a.octets).0 (avps_in-bytes a.octets fits)))

pub canonicals_bytes : (definitions : List Definition) (n : ℕ) (list : List Avp) → All HasBytes list → All HasBytes (map (canonical definitions n) list)
canonicals_bytes definitions n list h = All-mapped (canonical definitions n) HasBytes HasBytes (canonical_bytes definitions n) list h

-- a list takes no more room where no AVP of it does
room_mapped : (f : Avp → Avp) → ((a : Avp) → HasBytes a → length (encoded (f a)) ≤ length (encoded a)) → (list : List Avp) → All HasBytes list → length (encoding (map f list)) ≤ length (encoding list)
room_mapped f each [] h = omega arith
room_mapped f each (a ∷ list) h =
    omega (arith, each a (All-head HasBytes a list h), room_mapped f each list (All-tail HasBytes a list h), length-append (encoded a) (encoding list), length-append (encoded (f a)) (encoding (map f list)))

-- a Vendor-ID has 4 octets, or none
vendor_len : (v : Option ℕ) → (length (vendor_id v) ≡ 0) ⊎ (length (vendor_id v) ≡ 4)
vendor_len None = inl refl
vendor_len (Some zero) = inl refl
vendor_len (Some (suc n)) = inr refl

-- an AVP takes no more room with data that take no more than they did with their padding
room_octets : (a : Avp) (octets : List ℕ) → length octets ≤ padded (length a.octets) → length (encoded (with_octets a octets)) ≤ length (encoded a)
unfolding length_of
room_octets a octets le =
    elim (vendor_len a.vendor) [
      | inl e ↦ omega (arith, length_encoded a, length_encoded (with_octets a octets))
      | inr e ↦ omega (arith, length_encoded a, length_encoded (with_octets a octets))
    ]

-- its encoding has no more octets than before
pub canonical_room : (definitions : List Definition) (n : ℕ) (a : Avp) → IsBytes a.octets → length (encoded (canonical definitions n a)) ≤ length (encoded a)
canonical_room definitions zero a fits = rw canonical-zero (omega arith)
canonical_room definitions (suc n) a fits =
    by_cases definitions n a (λ b. length (encoded b) ≤ length (encoded a)) (IsGroup definitions a) refl (omega arith)
    (λ _. room_octets a (reencoded definitions n a.octets) (omega (arith, avps_in-room a.octets fits, room_mapped (canonical definitions n) (canonical_room definitions n) (avps_in a.octets).0 (avps_in-bytes a.octets fits))))

pub canonicals_room : (definitions : List Definition) (n : ℕ) (list : List Avp) → All HasBytes list → length (encoding (map (canonical definitions n) list)) ≤ length (encoding list)
canonicals_room definitions n list h = room_mapped (canonical definitions n) (canonical_room definitions n) list h

-- its length fits 24 bits where its encoding had few enough octets
pub canonical_short : (definitions : List Definition) (n : ℕ) (a : Avp) → IsBytes a.octets → length (encoded a) < 2 ^ 24 → length_of (canonical definitions n a) < 2 ^ 24
canonical_short definitions n a fits short = omega (arith, canonical_room definitions n a fits, length_encoded (canonical definitions n a), le_padded (length_of (canonical definitions n a)))

pub canonicals_short : (definitions : List Definition) (n : ℕ) (list : List Avp) → All HasBytes list → length (encoding list) < 2 ^ 24 → All IsShort (map (canonical definitions n) list)
canonicals_short definitions n [] h short = All-nil IsShort
canonicals_short definitions n (a ∷ list) h short =
    let both : length (encoding (a ∷ list)) ≡ length (encoded a) + length (encoding list) = length-append (encoded a) (encoding list) in
    All-cons IsShort (canonical definitions n a) (map (canonical definitions n) list)
    (canonical_short definitions n a (All-head HasBytes a list h) (omega arith))
    (canonicals_short definitions n list (All-tail HasBytes a list h) (omega arith))

-- the data of an AVP that is short have at least 8 octets fewer
pub short_octets : (a : Avp) → IsShort a → length a.octets + 8 < 2 ^ 24
unfolding length_of
short_octets a short = omega arith

-- the octets of a group in its canonical encoding are its canonical AVPs
pub canonical_inner : (definitions : List Definition) (n : ℕ) (octets : List ℕ) → IsBytes octets → length octets + 8 < 2 ^ 24
    → avps_in (encoding (map (canonical definitions n) (avps_in octets).0)) ≡ (map (canonical definitions n) (avps_in octets).0, [])
canonical_inner definitions n octets fits short =
    let list = (avps_in octets).0 in
    avps_in-encoding (map (canonical definitions n) list) (canonicals_numbers definitions n list (avps_in-numbers octets fits))
    (canonicals_short definitions n list (avps_in-bytes octets fits) (omega (arith, avps_in-room octets fits)))
    (canonicals_not_zero definitions n list (avps_in-not_zero octets fits))

-- the faults of a group are those inside
inside_by : (inside : List ℕ → List MsgFault) (definition : Option Definition) (event : Bool) (a : Avp) → is_grouped definition ≡ true → faults_by inside definition event a ≡ inside a.octets
inside_by inside None event a e = absurd cc
inside_by inside (Some d) event a e = let k : is_group d.kind ≡ true = e in rw k refl

inside_group : (inside : List ℕ → List MsgFault) (definitions : List Definition) (event : Bool) (a : Avp) → IsGroup definitions a ≡ true → avp_faults inside definitions event a ≡ inside a.octets
inside_group inside definitions event a e = inside_by inside (definition_of definitions a.code a.vendor) event a e

-- AVPs read from bytes, that are good
abbrev GoodBytes : List Definition → Bool → ℕ → Avp → Type 0
GoodBytes definitions event n a = IsBytes a.octets × IsShort a × IsGood definitions event n a

All-three : (P Q R : Avp → Type 0) (list : List Avp) → All P list → All Q list → All R list → All (λ a. P a × Q a × R a) list
All-three P Q R [] p q r = All-nil (λ a. P a × Q a × R a)
All-three P Q R (a ∷ list) p q r =
    All-cons (λ b. P b × Q b × R b) a list (All-head P a list p, All-head Q a list q, All-head R a list r)
    (All-three P Q R list (All-tail P a list p) (All-tail Q a list q) (All-tail R a list r))

-- a group of good AVPs is good in its canonical encoding
good_reencoded : (definitions : List Definition) (event : Bool) (n : ℕ) (octets : List ℕ) → IsBytes octets → length octets + 8 < 2 ^ 24
    → ((a : Avp) → GoodBytes definitions event n a → IsGood definitions event n (canonical definitions n a))
    → group_faults definitions event (suc n) octets ≡ [] → group_faults definitions event (suc n) (reencoded definitions n octets) ≡ []
good_reencoded definitions event n octets fits short each e =
    let list = (avps_in octets).0 in
    let f = canonical definitions n in
    let good = All-three HasBytes IsShort (IsGood definitions event n) list (avps_in-bytes octets fits) (avps_in-short octets fits) (each_good definitions event n octets e) in
    good_octets definitions event n (reencoded definitions n octets) (map f list) (canonical_inner definitions n octets fits short)
    (All-mapped f (GoodBytes definitions event n) (IsGood definitions event n) each list good)
    (omega (arith, length-map list f, few definitions event n octets e))

good_group : (definitions : List Definition) (event : Bool) (n : ℕ) (a : Avp) (b : Bool) → IsGroup definitions a ≡ b → GoodBytes definitions event (suc n) a
    → ((c : Avp) → GoodBytes definitions event n c → IsGood definitions event n (canonical definitions n c)) → IsGood definitions event (suc n) (canonical definitions (suc n) a)
good_group definitions event n a false e h each = rw (canonical-other definitions n a e) h.2
good_group definitions event n a true e h each =
    let inside = group_faults definitions event (suc n) in
    let was : group_faults definitions event (suc n) a.octets ≡ [] = sym (inside_group inside definitions event a e) ∙ h.2 in
    rw (canonical-group definitions n a e)
    (inside_group inside definitions event (with_octets a (reencoded definitions n a.octets)) e ∙ good_reencoded definitions event n a.octets h.0 (short_octets a h.1) each was)

good_from : (definitions : List Definition) (event : Bool) (n : ℕ) (a : Avp) → GoodBytes definitions event n a → IsGood definitions event n (canonical definitions n a)
good_from definitions event zero a h = rw canonical-zero h.2
good_from definitions event (suc n) a h = good_group definitions event n a (IsGroup definitions a) refl h (good_from definitions event n)

-- a good AVP is good in its canonical encoding
pub canonical_good : (definitions : List Definition) (event : Bool) (n : ℕ) (a : Avp) → IsBytes a.octets → length_of a < 2 ^ 24 → IsGood definitions event n a → IsGood definitions event n (canonical definitions n a)
canonical_good definitions event n a fits short good = good_from definitions event n a (fits, short, good)

pub canonicals_good : (definitions : List Definition) (event : Bool) (n : ℕ) (list : List Avp) → All HasBytes list → All IsShort list → All (IsGood definitions event n) list
    → All (IsGood definitions event n) (map (canonical definitions n) list)
canonicals_good definitions event n list fits short good =
    All-mapped (canonical definitions n) (GoodBytes definitions event n) (IsGood definitions event n) (good_from definitions event n) list (All-three HasBytes IsShort (IsGood definitions event n) list fits short good)

-- AVPs that are read from bytes
abbrev ReadBytes : Avp → Type 0
ReadBytes a = IsBytes a.octets × IsShort a

again_mapped : (f : Avp → Avp) → ((a : Avp) → IsBytes a.octets → IsShort a → f (f a) ≡ f a) → (list : List Avp) → All HasBytes list → All IsShort list → map f (map f list) ≡ map f list
again_mapped f each [] fits short = refl
again_mapped f each (a ∷ list) fits short =
    let one = each a (All-head HasBytes a list fits) (All-head IsShort a list short) in
    let more = again_mapped f each list (All-tail HasBytes a list fits) (All-tail IsShort a list short) in
    rw (one, more) refl

again_group : (definitions : List Definition) (n : ℕ) (a : Avp) (b : Bool) → IsGroup definitions a ≡ b → IsBytes a.octets → IsShort a
    → ((c : Avp) → IsBytes c.octets → IsShort c → canonical definitions n (canonical definitions n c) ≡ canonical definitions n c) → canonical definitions (suc n) (canonical definitions (suc n) a) ≡ canonical definitions (suc n) a
again_group definitions n a false e fits short each = ap (canonical definitions (suc n)) (canonical-other definitions n a e)
again_group definitions n a true e fits short each =
    let octets = reencoded definitions n a.octets in
    let own = canonical-group definitions n a e in
    let inner : avps_in octets ≡ (map (canonical definitions n) (avps_in a.octets).0, []) = canonical_inner definitions n a.octets fits (short_octets a short) in
    let list : map (canonical definitions n) (map (canonical definitions n) (avps_in a.octets).0) ≡ map (canonical definitions n) (avps_in a.octets).0 =
    again_mapped (canonical definitions n) each (avps_in a.octets).0 (avps_in-bytes a.octets fits) (avps_in-short a.octets fits) in
    let same : reencoded definitions n octets ≡ octets = rw (inner, list) refl in
    ap (canonical definitions (suc n)) own ∙ canonical-group definitions n (with_octets a octets) e ∙ ap (with_octets a) same ∙ sym own

-- the canonical encoding has canonical encoding: it stays as it is
pub canonical_again : (definitions : List Definition) (n : ℕ) (a : Avp) → IsBytes a.octets → length_of a < 2 ^ 24 → canonical definitions n (canonical definitions n a) ≡ canonical definitions n a
canonical_again definitions zero a fits short = ap (canonical definitions 0) (canonical-zero definitions a)
canonical_again definitions (suc n) a fits short = again_group definitions n a (IsGroup definitions a) refl fits short (canonical_again definitions n)

pub canonicals_again : (definitions : List Definition) (n : ℕ) (list : List Avp) → All HasBytes list → All IsShort list → map (canonical definitions n) (map (canonical definitions n) list) ≡ map (canonical definitions n) list
canonicals_again definitions n list fits short = again_mapped (canonical definitions n) (canonical_again definitions n) list fits short
