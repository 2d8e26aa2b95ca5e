use Rattle.std.proofs.Common.{◌≡◌, ℕ, Bool, true, false, ◌&&◌, ◌==◌, List, [], ◌∷◌, map, Some, None, codes, refl, ap, ◌∙◌}
use Rattle.std.specs.Str.{bytes_eq}
use Rattle.std.specs.Cmp.Lexicographic.{pointwise}
use Rattle.text_parts.specs.Words.{Word, words}
use Rattle.tab_text.specs.Cells.{is_header, columns_of, starts, heading}
use Rattle.text_parts.specs.Pieces.{after_word}

-- words have these spellings
abbrev pub spells : List Word → List (List ℕ) → Bool
spells found wanted = pointwise bytes_eq (map (λ word. word.octets) found) wanted

none-at : (wanted : List ℕ) (first : Word) (rest : List Word) (more : List (List ℕ)) (test : Bool) → bytes_eq first.octets wanted ≡ test → after_word wanted (first ∷ rest) ≡ None → spells (first ∷ rest) (wanted ∷ more) ≡ false
none-at wanted first rest more true is none =
    let some : after_word wanted (first ∷ rest) ≡ Some (first.at, rest) = rw is refl in
    cc
none-at wanted first rest more false is none = rw is refl

-- the first word isn't the one that is wanted
spells-none : (wanted : List ℕ) (found : List Word) (more : List (List ℕ)) → after_word wanted found ≡ None → spells found (wanted ∷ more) ≡ false
spells-none wanted [] more none = refl
spells-none wanted (first ∷ rest) more none = none-at wanted first rest more (bytes_eq first.octets wanted) refl none

-- the first word is the one that is wanted
record IsSpelled (wanted : List ℕ) (found : List Word) (at : ℕ) (rest : List Word) : Type 0 where
  spelled : (more : List (List ℕ)) → spells found (wanted ∷ more) ≡ spells rest more
  start : map (λ word. word.at) found ≡ at ∷ map (λ word. word.at) rest

some-at : (wanted : List ℕ) (first : Word) (others rest : List Word) (at : ℕ) (test : Bool) → bytes_eq first.octets wanted ≡ test → after_word wanted (first ∷ others) ≡ Some (at, rest) → IsSpelled wanted (first ∷ others) at rest
some-at wanted first others rest at true is some =
    let here : after_word wanted (first ∷ others) ≡ Some (first.at, others) = rw is refl in
    let pair : (first.at, others) ≡ (at, rest) = cc in
    let begins : first.at ≡ at = ap (λ (p : ℕ × List Word). p.0) pair in
    let behind : others ≡ rest = ap (λ (p : ℕ × List Word). p.1) pair in
    record { spelled = λ more. rw (is, behind) refl; start = rw (begins, behind) refl }
some-at wanted first others rest at false is some =
    let none : after_word wanted (first ∷ others) ≡ None = rw is refl in
    cc

spells-some : (wanted : List ℕ) (found rest : List Word) (at : ℕ) → after_word wanted found ≡ Some (at, rest) → IsSpelled wanted found at rest
spells-some wanted [] rest at some = cc
spells-some wanted (first ∷ others) rest at some = some-at wanted first others rest at (bytes_eq first.octets wanted) refl some

not-spelled : (octets : List ℕ) → spells (words octets) heading ≡ false → is_header octets ≡ false
unfolding is_header
not-spelled octets none = rw none refl

abbrev state : List ℕ
state = codes "State"

abbrev event : List ℕ
event = codes "Event"

abbrev action : List ℕ
action = codes "Action"

abbrev next : List ℕ
next = codes "Next"

-- no header lacks one of its words
pub lacks-state : (octets : List ℕ) (w0 : List Word) → w0 ≡ words octets → after_word state w0 ≡ None → is_header octets ≡ false
lacks-state octets w0 is n0 = not-spelled octets (rw (← is) (spells-none state w0 _ n0))

pub lacks-event : (octets : List ℕ) (w0 w1 : List Word) (s : ℕ) → w0 ≡ words octets → after_word state w0 ≡ Some (s, w1) → after_word event w1 ≡ None → is_header octets ≡ false
lacks-event octets w0 w1 s is e0 n1 =
    not-spelled octets (rw (← is) ((spells-some state w0 w1 s e0).spelled _ ∙ spells-none event w1 _ n1))

pub lacks-action : (octets : List ℕ) (w0 w1 w2 : List Word) (s e : ℕ) → w0 ≡ words octets → after_word state w0 ≡ Some (s, w1) → after_word event w1 ≡ Some (e, w2) → after_word action w2 ≡ None → is_header octets ≡ false
lacks-action octets w0 w1 w2 s e is e0 e1 n2 =
    not-spelled octets (rw (← is) ((spells-some state w0 w1 s e0).spelled _ ∙ (spells-some event w1 w2 e e1).spelled _ ∙ spells-none action w2 _ n2))

-- a line that begins with the words of a header
pub record BeginsHeader (octets : List ℕ) (s e a n : ℕ) (rest : List Word) : Type 0 where
  pub spelled : spells (words octets) heading ≡ spells rest []
  pub starts_are : starts octets ≡ s ∷ e ∷ a ∷ n ∷ map (λ word. word.at) rest

pub lacks-next : (octets : List ℕ) (w0 w1 w2 w3 : List Word) (s e a : ℕ) → w0 ≡ words octets → after_word state w0 ≡ Some (s, w1) → after_word event w1 ≡ Some (e, w2) → after_word action w2 ≡ Some (a, w3) → after_word next w3 ≡ None → is_header octets ≡ false
lacks-next octets w0 w1 w2 w3 s e a is e0 e1 e2 n3 =
    not-spelled octets (rw (← is) ((spells-some state w0 w1 s e0).spelled _ ∙ (spells-some event w1 w2 e e1).spelled _ ∙ (spells-some action w2 w3 a e2).spelled _ ∙ spells-none next w3 _ n3))

pub begins : (octets : List ℕ) (w0 w1 w2 w3 w4 : List Word) (s e a n : ℕ) → w0 ≡ words octets → after_word state w0 ≡ Some (s, w1) → after_word event w1 ≡ Some (e, w2) → after_word action w2 ≡ Some (a, w3) → after_word next w3 ≡ Some (n, w4) → BeginsHeader octets s e a n w4
begins octets w0 w1 w2 w3 w4 s e a n is e0 e1 e2 e3 =
    let h0 = spells-some state w0 w1 s e0 in
    let h1 = spells-some event w1 w2 e e1 in
    let h2 = spells-some action w2 w3 a e2 in
    let h3 = spells-some next w3 w4 n e3 in
    record {
      spelled = rw (← is) (h0.spelled _ ∙ h1.spelled _ ∙ h2.spelled _ ∙ h3.spelled []);
      starts_are = rw (← is, h0.start, h1.start, h2.start, h3.start) refl;
    }

and-false : (test : Bool) → (test && false) ≡ false
and-false true = refl
and-false false = refl

-- a header's first word begins at byte 2
pub elsewhere : (octets : List ℕ) (s e a n : ℕ) (rest : List Word) → BeginsHeader octets s e a n rest → (s == 2) ≡ false → is_header octets ≡ false
unfolding is_header
elsewhere octets s e a n rest begin isnt = rw (begin.starts_are, isnt) (and-false (spells (words octets) heading))

-- a header has no more words
pub longer : (octets : List ℕ) (s e a n : ℕ) (rest others : List Word) (word : Word) → BeginsHeader octets s e a n rest → rest ≡ word ∷ others → is_header octets ≡ false
longer octets s e a n rest others word begin more = not-spelled octets (begin.spelled ∙ rw more refl)

pub whole : (octets : List ℕ) (s e a n : ℕ) (rest : List Word) → BeginsHeader octets s e a n rest → s ≡ 2 → rest ≡ [] → (is_header octets ≡ true) × (record { event = e; action = a; next = n } ≡ columns_of octets)
unfolding is_header columns_of
whole octets s e a n rest begin at none =
    (rw (begin.spelled, begin.starts_are, none, at) refl, rw begin.starts_are refl)
