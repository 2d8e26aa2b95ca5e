-- Data of a type, against the tests that say whether data are of it.
use Rattle.std.proofs.Common.{◌≡◌, ◌≢◌, ℕ, ◌-◌, ◌<◌, ◌≤◌, Bool, true, false, List, [], ◌∷◌, ◌++◌, zero, suc, All, get_or, length, take, drop, refl, sym, ap, ◌∙◌, arith}
use Rattle.std.specs.Prelude.{Any, MatchBool}
use Rattle.std.specs.Str.{IsUtf8, is_utf8, IsAscii, IsNotAscii}
use Rattle.std.proofs.lemmas.Str.{IsUtf8-from_is_utf8}
use Rattle.std.proofs.lemmas.Bool.{le-ltb, lt-ltb, ne_eqb}
use Rattle.std.proofs.lemmas.Grind.{get_or_default_zero}
use Rattle.std.proofs.lemmas.List.Elements.{All-from_get_or}
use Rattle.std.proofs.lemmas.List.{take_all, take-append-drop, length-drop}
use Rattle.byteorder.specs.Endian.{big_bytes, big_number}
use Rattle.byteorder.specs.Numbers.{big_number-reads_back}
use Rattle.dia_avp.specs.declared.address.Address.{Address}
use Rattle.dia_avp.specs.declared.address.Address.TheVariants.{V4, V6, Other}
use Rattle.dia_avp.specs.Field.{IsAddress, is_size_of, is_address}
use Rattle.dia_avp.proofs.Bytes.{IsBytes, big_bytes_2}

not_test : (b : Bool) → (b ≡ true → ⊥) → b ≡ false
not_test true f = absurd (f refl)
not_test false f = refl

-- what is not UTF-8 fails the test
pub not_utf8 : (octets : List ℕ) → (IsUtf8 octets → ⊥) → is_utf8 octets ≡ false
not_utf8 octets f = not_test (is_utf8 octets) (λ e. f (IsUtf8-from_is_utf8 octets e))

-- data shorter than a family are no Address
pub is_address-short : (octets : List ℕ) → length octets < 2 → is_address octets ≡ false
is_address-short octets lt = rw (lt-ltb _ _ lt) refl

is_address-of : (octets : List ℕ) (family size : ℕ) → 2 ≤ length octets → big_number 2 octets ≡ family → length octets - 2 ≡ size → is_address octets ≡ is_size_of family size
is_address-of octets family size le f s =
    rw (le-ltb _ _ le) (ap (λ (n : ℕ). is_size_of n (length octets - 2)) f ∙ ap (is_size_of family) s)

-- nor are those whose address has not the size of its family
pub is_address-v4 : (octets : List ℕ) → 2 ≤ length octets → big_number 2 octets ≡ 1 → length octets ≢ 6 → is_address octets ≡ false
is_address-v4 octets le family size = is_address-of octets 1 (length octets - 2) le family refl ∙ ne_eqb (length octets - 2) 4 (λ e. size (omega arith))

pub is_address-v6 : (octets : List ℕ) → 2 ≤ length octets → big_number 2 octets ≡ 2 → length octets ≢ 18 → is_address octets ≡ false
is_address-v6 octets le family size = is_address-of octets 2 (length octets - 2) le family refl ∙ ne_eqb (length octets - 2) 16 (λ e. size (omega arith))

size_of_other : (family size : ℕ) → family ≢ 1 → family ≢ 2 → is_size_of family size ≡ true
size_of_other family size one two = rw (ne_eqb family 1 one, ne_eqb family 2 two) refl

-- data that are an Address pass the test
pub is_address-is : (octets : List ℕ) (a : Address) → IsAddress octets a → is_address octets ≡ true
is_address-is octets (V4 address) h = is_address-of octets 1 4 (omega (arith, ap length h.1)) (ap (big_number 2) h.1) (omega (arith, h.0, ap length h.1))
is_address-is octets (V6 address) h = is_address-of octets 2 16 (omega (arith, ap length h.1)) (ap (big_number 2) h.1) (omega (arith, h.0, ap length h.1))
is_address-is octets (Other family address) h =
    is_address-of octets family (length address.now) (omega (arith, ap length h.3)) (ap (big_number 2) h.3 ∙ big_number-reads_back 2 family address.now h.0) (omega (arith, ap length h.3))
    ∙ size_of_other family (length address.now) h.1 h.2

-- the family and the octets behind it
pub family_and : (octets : List ℕ) (family : ℕ) → IsBytes octets → 2 ≤ length octets → family ≡ big_number 2 octets → octets ≡ big_bytes 2 family ++ take (length octets - 2) (drop 2 octets)
family_and octets family fits le e =
    let all : take (length octets - 2) (drop 2 octets) ≡ drop 2 octets = take_all (length octets - 2) (drop 2 octets) (omega (arith, length-drop 2 octets)) in
    let two : big_bytes 2 family ≡ take 2 octets = ap (big_bytes 2) e ∙ big_bytes_2 octets le fits in
    sym (take-append-drop 2 octets) ∙ cc

-- what std's test of ASCII says of each octet
within : (octets : List ℕ) (i : ℕ) → 128 ≤ get_or octets i 0 → i < length octets
within [] i le = absurd (omega arith)
within (o ∷ octets) zero le = omega arith
within (o ∷ octets) (suc i) le = omega (arith, within octets i le)

pub all_ascii : (b : Bool) (octets : List ℕ) → MatchBool b (IsAscii octets) (IsNotAscii octets) → b ≡ true → All (λ o. o < 128) octets
all_ascii true octets h e = All-from_get_or (λ o. o < 128) octets 0 (λ i lt. h i)
all_ascii false octets h e = absurd cc

pub any_ascii : (b : Bool) (octets : List ℕ) → MatchBool b (IsAscii octets) (IsNotAscii octets) → b ≡ false → Any (λ o. 128 ≤ o) octets
any_ascii true octets h e = absurd cc
any_ascii false octets h e = let lt = within octets h.0 h.1 in (h.0, get_or octets h.0 0, lt, get_or_default_zero octets h.0 (get_or octets h.0 0) lt, h.1)
