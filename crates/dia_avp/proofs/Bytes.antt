-- Numbers and their octets, and cuts of lists.
use Rattle.std.proofs.Common.{◌≡◌, ℕ, zero, suc, ◌+◌, ◌-◌, ◌<◌, ◌≤◌, ◌^◌, List, [], ◌∷◌, ◌++◌, length, take, drop, replicate, get_or, Fits, w8, refl, sym, ap, ◌∙◌, arith}
use Rattle.std.specs.Prelude.{slice_range}
use Rattle.std.specs.Int.{byte_at}
use Rattle.std.proofs.lemmas.Nat.{be_bytes_2, be_bytes_4, be_bytes_8}
use Rattle.std.proofs.lemmas.List.{take-append-drop, take_all, drop-drop, get_or-drop}
use Rattle.byteorder.specs.Endian.{big_bytes, big_number}
use Rattle.dia_avp.specs.Field.{IsUnsigned32, IsUnsigned64}

abbrev pub IsBytes : List ℕ → Type 0
IsBytes bytes = (i : ℕ) → get_or bytes i 0 < 256

pub IsBytes-fits : (bytes : List ℕ) → ((i : ℕ) → Fits w8 (get_or bytes i 0)) → IsBytes bytes
IsBytes-fits bytes h i = omega (arith, h i)

pub IsBytes-drop : (n : ℕ) (bytes : List ℕ) → IsBytes bytes → IsBytes (drop n bytes)
IsBytes-drop n bytes h i = rw get_or-drop (h (n + i))

pub IsBytes-nil : IsBytes []
IsBytes-nil i = omega arith

pub IsBytes-cons : (x : ℕ) (bytes : List ℕ) → x < 256 → IsBytes bytes → IsBytes (x ∷ bytes)
IsBytes-cons x bytes lt h zero = lt
IsBytes-cons x bytes lt h (suc i) = h i

pub IsBytes-append : (front bytes : List ℕ) → IsBytes front → IsBytes bytes → IsBytes (front ++ bytes)
IsBytes-append [] bytes h k = k
IsBytes-append (x ∷ front) bytes h k = IsBytes-cons x (front ++ bytes) (h 0) (IsBytes-append front bytes (λ i. h (suc i)) k)

pub IsBytes-left : (front bytes : List ℕ) → IsBytes (front ++ bytes) → IsBytes front
IsBytes-left [] bytes h = IsBytes-nil
IsBytes-left (x ∷ front) bytes h = IsBytes-cons x front (h 0) (IsBytes-left front bytes (λ i. h (suc i)))

pub IsBytes-right : (front bytes : List ℕ) → IsBytes (front ++ bytes) → IsBytes bytes
IsBytes-right [] bytes h = h
IsBytes-right (x ∷ front) bytes h = IsBytes-right front bytes (λ i. h (suc i))

pub IsBytes-zeros : (n : ℕ) → IsBytes (replicate n 0)
IsBytes-zeros zero = IsBytes-nil
IsBytes-zeros (suc n) = IsBytes-cons 0 (replicate n 0) (omega arith) (IsBytes-zeros n)

byte_at-lt : (n x : ℕ) → byte_at n x < 256
byte_at-lt zero x = omega arith
byte_at-lt (suc n) x = omega arith

pub IsBytes-big_bytes : (n x : ℕ) → IsBytes (big_bytes n x)
IsBytes-big_bytes zero x = IsBytes-nil
IsBytes-big_bytes (suc n) x = IsBytes-cons (byte_at n x) (big_bytes n x) (byte_at-lt n x) (IsBytes-big_bytes n x)

four : (a b c d : ℕ) → a < 256 → b < 256 → c < 256 → d < 256 → (i : ℕ) → get_or (a ∷ b ∷ c ∷ d ∷ []) i 0 < 256
four a b c d p q r s zero = p
four a b c d p q r s (suc zero) = q
four a b c d p q r s (suc (suc zero)) = r
four a b c d p q r s (suc (suc (suc zero))) = s
four a b c d p q r s (suc (suc (suc (suc i)))) = omega arith

two : (a b : ℕ) → a < 256 → b < 256 → (i : ℕ) → get_or (a ∷ b ∷ []) i 0 < 256
two a b p q zero = p
two a b p q (suc zero) = q
two a b p q (suc (suc i)) = omega arith

pub big_bytes_2 : (bytes : List ℕ) → 2 ≤ length bytes → IsBytes bytes → big_bytes 2 (big_number 2 bytes) ≡ take 2 bytes
big_bytes_2 [] l h = absurd (omega arith)
big_bytes_2 (a ∷ []) l h = absurd (omega arith)
big_bytes_2 (a ∷ b ∷ rest) l h = be_bytes_2 (a ∷ b ∷ []) _ refl (two a b (h 0) (h 1)) (omega arith)

pub big_bytes_4 : (bytes : List ℕ) → 4 ≤ length bytes → IsBytes bytes → big_bytes 4 (big_number 4 bytes) ≡ take 4 bytes
big_bytes_4 [] l h = absurd (omega arith)
big_bytes_4 (a ∷ []) l h = absurd (omega arith)
big_bytes_4 (a ∷ b ∷ []) l h = absurd (omega arith)
big_bytes_4 (a ∷ b ∷ c ∷ []) l h = absurd (omega arith)
big_bytes_4 (a ∷ b ∷ c ∷ d ∷ rest) l h = be_bytes_4 (a ∷ b ∷ c ∷ d ∷ []) _ refl (four a b c d (h 0) (h 1) (h 2) (h 3)) (omega arith)

tail_of : List ℕ → List ℕ
tail_of [] = []
tail_of (x ∷ xs) = xs

pub big_bytes_3 : (bytes : List ℕ) → 3 ≤ length bytes → IsBytes bytes → big_bytes 3 (big_number 3 bytes) ≡ take 3 bytes
unfolding tail_of
big_bytes_3 [] l h = absurd (omega arith)
big_bytes_3 (a ∷ []) l h = absurd (omega arith)
big_bytes_3 (a ∷ b ∷ []) l h = absurd (omega arith)
big_bytes_3 (a ∷ b ∷ c ∷ rest) l h =
    ap tail_of (be_bytes_4 (0 ∷ a ∷ b ∷ c ∷ []) (big_number 3 (a ∷ b ∷ c ∷ rest)) refl (four 0 a b c (omega arith) (h 0) (h 1) (h 2)) (omega arith))

pub big_number_4-lt : (bytes : List ℕ) → IsBytes bytes → big_number 4 bytes < 2 ^ 32
big_number_4-lt bytes h = omega (arith, h 0, h 1, h 2, h 3)

pub big_number_3-lt : (bytes : List ℕ) → IsBytes bytes → big_number 3 bytes < 2 ^ 24
big_number_3-lt bytes h = omega (arith, h 0, h 1, h 2)

-- a list from place a on is what stands there up to b, and what comes after
pub cut : (bytes : List ℕ) (a b : ℕ) → a ≤ b → drop a bytes ≡ slice_range bytes a b ++ drop b bytes
cut bytes a b le =
    let e : a + (b - a) ≡ b = omega arith in
    sym (take-append-drop (b - a) (drop a bytes)) ∙ ap (λ (x : List ℕ). slice_range bytes a b ++ x) (drop-drop (b - a) a bytes ∙ rw e refl)

-- four octets are the Unsigned32 that is read from them
pub unsigned32 : (bytes : List ℕ) (n : ℕ) → length bytes ≡ 4 → IsBytes bytes → n ≡ big_number 4 bytes → IsUnsigned32 bytes n
unsigned32 bytes n len fits e =
    let whole : take 4 bytes ≡ bytes = take_all 4 bytes (omega arith) in
    (rw e (big_number_4-lt bytes fits), rw e (sym whole ∙ sym (big_bytes_4 bytes (omega arith) fits)))

-- eight octets are the Unsigned64 that is read from them
pub unsigned64 : (bytes : List ℕ) (n : ℕ) → length bytes ≡ 8 → IsBytes bytes → n ≡ big_number 8 bytes → IsUnsigned64 bytes n
unsigned64 bytes n len fits e = (rw e (omega (arith, fits 0, fits 1, fits 2, fits 3, fits 4, fits 5, fits 6, fits 7)), sym (be_bytes_8 bytes n len fits (rw e (omega arith))))
