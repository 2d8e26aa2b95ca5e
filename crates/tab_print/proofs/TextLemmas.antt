use Rattle.std.proofs.Common.{◌≡◌, ℕ, ◌+◌, ◌<◌, ◌≤◌, suc, zero, Bool, true, false, ◌&&◌, ◌||◌, ◌==◌, leb, List, [], ◌∷◌, ◌++◌, reverse, replicate, arith, refl, sym, ap, ◌∙◌}
use Rattle.std.specs.List.{All, list_all}
use Rattle.std.proofs.lemmas.Bool.Decides.{nat_tests}
use Rattle.std.proofs.lemmas.List.{append-nil, reverse-append, replicate_more, reverse-reverse}
use Rattle.std.proofs.lemmas.List.Elements.{All-cons}
use Rattle.std.proofs.lemmas.List.Folds.{list_all-append}
use Rattle.std.proofs.lemmas.List.Splits.{slice_split_none}
use Rattle.text_parts.specs.Lines.{is_plain}
use Rattle.text_parts.specs.Words.{apart, tokens, trimmed_front, trimmed}
use Rattle.tab_text.specs.Names.{is_letter, is_digit, is_name_byte, is_spelled, is_name}

-- a text that begins with no blank
pub record Begins (text : List ℕ) : Type 0 where
  pub first : ℕ
  pub rest : List ℕ
  pub is : text ≡ first ∷ rest
  pub solid : (first == 32) ≡ false

pub begins-append : (front behind : List ℕ) → Begins front → Begins (front ++ behind)
begins-append front behind begins = record { first = begins.first; rest = begins.rest ++ behind; is = rw begins.is refl; solid = begins.solid }

-- a text that ends with none
abbrev pub Ends : List ℕ → Type 0
Ends text = Begins (reverse text)

pub ends-append : (front behind : List ℕ) → Ends behind → Ends (front ++ behind)
ends-append front behind ends = rw (reverse-append front behind) (begins-append (reverse behind) (reverse front) ends)

front-is : (text : List ℕ) → Begins text → trimmed_front text ≡ text
front-is text begins = rw (begins.is, begins.solid) refl

blanks-front : (count : ℕ) (text : List ℕ) → trimmed_front (replicate count 32 ++ text) ≡ trimmed_front text
blanks-front zero text = refl
blanks-front (suc count) text = blanks-front count text

reverse-blanks : (count : ℕ) → reverse {A = ℕ} (replicate count 32) ≡ replicate count 32
reverse-blanks zero = refl
reverse-blanks (suc count) =
    let more : replicate {A = ℕ} count 32 ++ 32 ∷ [] ≡ replicate {A = ℕ} (count + 1) 32 = replicate_more count 32 in
    let next : count + 1 ≡ suc count = omega arith in
    let blank : List ℕ = 32 ∷ [] in
    reverse-append blank (replicate count 32) ∙ rw (reverse-blanks count, more, next) refl

-- a text that begins and ends with no blank is what is left of it behind which blanks stand
pub trimmed-padded : (text : List ℕ) (count : ℕ) → Begins text → Ends text → trimmed (text ++ replicate count 32) ≡ text
unfolding trimmed
trimmed-padded text count begins ends =
    rw (front-is (text ++ replicate count 32) (begins-append text (replicate count 32) begins), reverse-append text (replicate count 32), reverse-blanks count, blanks-front count (reverse text), front-is (reverse text) ends)
    (reverse-reverse text)

pub trimmed-whole : (text : List ℕ) → Begins text → Ends text → trimmed text ≡ text
trimmed-whole text begins ends =
    ap trimmed (sym (append-nil text)) ∙ trimmed-padded text 0 begins ends

-- bytes that names have, and few others
abbrev pub Wordy : List ℕ → Type 0
Wordy [] = Unit
Wordy (b ∷ bs) = (45 ≤ b) × (b ≤ 122) × Wordy bs

or-by : {P : Type 0} (a b : Bool) → (a || b) ≡ true → (a ≡ true → P) → (b ≡ true → P) → P
or-by true b is left right = left refl
or-by false b is left right = right is

pub and-both : (a b : Bool) → (a && b) ≡ true → (a ≡ true) × (b ≡ true)
and-both true b is = (refl, is)
and-both false b is = cc

le-from : (m n : ℕ) → leb m n ≡ true → m ≤ n
le-from m n is = grind (arith, nat_tests)

between : (low high b : ℕ) → 45 ≤ low → high ≤ 122 → (leb low b && leb b high) ≡ true → (45 ≤ b) × (b ≤ 122)
between low high b above below is =
    let both = and-both (leb low b) (leb b high) is in
    let from = le-from low b both.0 in
    let to = le-from b high both.1 in
    (omega (arith, from, above), omega (arith, to, below))

same-byte : (b other : ℕ) → 45 ≤ other → other ≤ 122 → (b == other) ≡ true → (45 ≤ b) × (b ≤ 122)
same-byte b other above below is =
    let same : b ≡ other = grind (arith, nat_tests) in
    rw same (above, below)

letter-byte : (b : ℕ) → is_letter b ≡ true → (45 ≤ b) × (b ≤ 122)
letter-byte b is =
    or-by (leb 65 b && leb b 90) (leb 97 b && leb b 122) is
    (λ upper. between 65 90 b (omega arith) (omega arith) upper)
    (λ lower. between 97 122 b (omega arith) (omega arith) lower)

name-byte : (b : ℕ) → is_name_byte b ≡ true → (45 ≤ b) × (b ≤ 122)
name-byte b is =
    or-by (is_letter b || is_digit b || (b == 45) || (b == 47)) (b == 95) is
    (λ front. or-by (is_letter b || is_digit b || (b == 45)) (b == 47) front
    (λ first. or-by (is_letter b || is_digit b) (b == 45) first
    (λ two. or-by (is_letter b) (is_digit b) two (letter-byte b) (λ digit. between 48 57 b (omega arith) (omega arith) digit))
    (same-byte b 45 (omega arith) (omega arith)))
    (same-byte b 47 (omega arith) (omega arith)))
    (same-byte b 95 (omega arith) (omega arith))

all-wordy : (octets : List ℕ) → list_all is_name_byte octets ≡ true → Wordy octets
all-wordy [] all = tt
all-wordy (b ∷ bs) all =
    let both = and-both (is_name_byte b) (list_all is_name_byte bs) all in
    let here = name-byte b both.0 in
    (here.0, here.1, all-wordy bs both.1)

-- a text of such bytes that isn't empty
pub record IsWordy (text : List ℕ) : Type 0 where
  pub first : ℕ
  pub rest : List ℕ
  pub is : text ≡ first ∷ rest
  pub wordy : Wordy (first ∷ rest)

spelled-wordy : (octets : List ℕ) → is_spelled octets ≡ true → IsWordy octets
spelled-wordy [] is = cc
spelled-wordy (b ∷ bs) is =
    let both = and-both (is_letter b) (list_all is_name_byte bs) is in
    let here = letter-byte b both.0 in
    record { first = b; rest = bs; is = refl; wordy = (here.0, here.1, all-wordy bs both.1) }

front-of-four : (a b c d : Bool) → (a && b && c && d) ≡ true → a ≡ true
front-of-four true b c d is = refl
front-of-four false b c d is = cc

pub name-wordy : (octets : List ℕ) → is_name octets ≡ true → IsWordy octets
unfolding is_name
name-wordy octets is = spelled-wordy octets (front-of-four (is_spelled octets) _ _ _ is)

apart-from : (b other : ℕ) → other < 45 → 45 ≤ b → (b == other) ≡ false
apart-from b other below above = grind (arith, nat_tests)

pub wordy-begins : (text : List ℕ) → IsWordy text → Begins text
wordy-begins text wordy = record { first = wordy.first; rest = wordy.rest; is = wordy.is; solid = apart-from wordy.first 32 (omega arith) wordy.wordy.0 }

ends-by : (b : ℕ) (bs : List ℕ) → Wordy (b ∷ bs) → Ends (b ∷ bs)
ends-by b [] wordy = record { first = b; rest = []; is = refl; solid = apart-from b 32 (omega arith) wordy.0 }
ends-by b (c ∷ bs) wordy = ends-append (b ∷ []) (c ∷ bs) (ends-by c bs wordy.2)

pub wordy-ends : (text : List ℕ) → IsWordy text → Ends text
wordy-ends text wordy = rw wordy.is (ends-by wordy.first wordy.rest wordy.wordy)

plain-byte : (b : ℕ) → 45 ≤ b → b ≤ 122 → (leb 32 b && leb b 126) ≡ true
plain-byte b above below =
    let low : leb 32 b ≡ true = grind (arith, nat_tests) in
    let high : leb b 126 ≡ true = grind (arith, nat_tests) in
    rw (low, high) refl

plain-by : (octets : List ℕ) → Wordy octets → is_plain octets ≡ true
plain-by [] wordy = refl
plain-by (b ∷ bs) wordy = rw (plain-byte b wordy.0 wordy.1, plain-by bs wordy.2) refl

pub wordy-plain : (text : List ℕ) → IsWordy text → is_plain text ≡ true
wordy-plain text wordy = rw wordy.is (plain-by (wordy.first ∷ wordy.rest) wordy.wordy)

pub plain-append : (front behind : List ℕ) → is_plain front ≡ true → is_plain behind ≡ true → is_plain (front ++ behind) ≡ true
plain-append front behind f b = list_all-append (λ c. leb 32 c && leb c 126) front behind ∙ rw (f, b) refl

pub plain-blanks : (count : ℕ) → is_plain (replicate count 32) ≡ true
plain-blanks zero = refl
plain-blanks (suc count) = plain-blanks count

-- such a text has no blank, no comma and no newline
pub wordy-without : (octets : List ℕ) (other : ℕ) → other < 45 → Wordy octets → All (λ b. (b == other) ≡ false) octets
wordy-without [] other below wordy = λ k d inside. absurd (omega arith)
wordy-without (b ∷ bs) other below wordy =
    All-cons (λ c. (c == other) ≡ false) b bs (apart-from b other below wordy.0) (wordy-without bs other below wordy.2)

apart-wordy : (octets : List ℕ) → Wordy octets → apart octets ≡ octets
apart-wordy [] wordy = refl
apart-wordy (b ∷ bs) wordy = rw (apart-from b 44 (omega arith) wordy.0, apart-wordy bs wordy.2) refl

-- it is one word of a cell
pub tokens-wordy : (text : List ℕ) → IsWordy text → tokens text ≡ text ∷ []
unfolding tokens
tokens-wordy text wordy =
    let whole = wordy.first ∷ wordy.rest in
    rw (wordy.is, apart-wordy whole wordy.wordy, slice_split_none (λ b. b == 32) whole (wordy-without whole 32 (omega arith) wordy.wordy)) refl
