use Rattle.std.proofs.Common.{◌≡◌, ℕ, ◌+◌, ◌-◌, ◌<◌, ◌≤◌, suc, Bool, true, false, leb, ltb, ◌==◌, List, [], ◌∷◌, length, take, drop, unwrap_or, position, arith, refl, inl, inr, not, sym, ap, ◌∙◌}
use Rattle.std.specs.List.{position_or_len}
use Rattle.std.proofs.lemmas.List.{drop-drop, length-drop, length-take-le}
use Rattle.std.proofs.lemmas.List.Sums.{prefix_len-le-length}
use Rattle.std.proofs.lemmas.Bool.{cases_lt}
use Rattle.std.proofs.lemmas.Bool.Decides.{nat_tests}
use Rattle.text_parts.specs.Pieces.{pieces_in, pieces_from}

-- the pieces from a byte of the text on
pub pieces_from-within : (separator from : ℕ) (text : List ℕ) → from ≤ length text → pieces_from separator from text ≡ pieces_in separator (drop from text)
unfolding pieces_from
pieces_from-within separator from text within =
    let yes : leb from (length text) ≡ true = grind (arith, nat_tests) in
    rw yes refl

-- no piece is left behind the end
pub pieces_from-past : (separator from : ℕ) (text : List ℕ) → length text < from → pieces_from separator from text ≡ []
unfolding pieces_from
pieces_from-past separator from text past =
    let no : leb from (length text) ≡ false = grind (arith, nat_tests) in
    rw no refl

-- the pieces from the first byte on are all pieces
pub pieces_from-start : (separator : ℕ) (text : List ℕ) → pieces_from separator 0 text ≡ pieces_in separator text
pieces_from-start separator text = pieces_from-within separator 0 text (omega arith)

-- where the piece in front ends
abbrev pub front_len : ℕ → List ℕ → ℕ
front_len separator text = position_or_len (λ b. b == separator) text

front-within : (separator : ℕ) (text : List ℕ) → front_len separator text ≤ length text
front-within separator text = prefix_len-le-length (λ b. not (b == separator)) text

pub position-front : (separator : ℕ) (text : List ℕ) → unwrap_or (position (λ b. b == separator) text) (length text) ≡ front_len separator text
position-front separator text =
    let within : front_len separator text ≤ length text = front-within separator text in
    elim (cases_lt (front_len separator text) (length text)) [
      | inl below ↦ (let yes : ltb (front_len separator text) (length text) ≡ true = grind (arith, nat_tests) in rw yes refl)
      | inr above ↦ (let isnt : ltb (front_len separator text) (length text) ≡ false = grind (arith, nat_tests) in rw isnt (omega arith))
    ]

pieces_from-cons : (separator from : ℕ) (b : ℕ) (text : List ℕ) → pieces_from separator (suc from) (b ∷ text) ≡ pieces_from separator from text
pieces_from-cons separator from b text =
    elim (cases_lt (length text) from) [
      | inl past ↦ pieces_from-past separator (suc from) (b ∷ text) (omega arith) ∙ sym (pieces_from-past separator from text past)
      | inr within ↦ pieces_from-within separator (suc from) (b ∷ text) (omega arith) ∙ sym (pieces_from-within separator from text within)
    ]

-- the pieces of a text with one more byte in front, which is a separator or not
split-cons : (separator b : ℕ) (text : List ℕ) (test : Bool) → (b == separator) ≡ test → pieces_in separator text ≡ take (front_len separator text) text ∷ pieces_from separator (front_len separator text + 1) text → pieces_in separator (b ∷ text) ≡ take (front_len separator (b ∷ text)) (b ∷ text) ∷ pieces_from separator (front_len separator (b ∷ text) + 1) (b ∷ text)
split-cons separator b text true is rest =
    rw is (rw (pieces_from-within separator 1 (b ∷ text) (omega arith)) refl)
split-cons separator b text false is rest =
    let more : 1 + front_len separator text ≡ suc (front_len separator text) = omega arith in
    let next : suc (front_len separator text) + 1 ≡ suc (front_len separator text + 1) = omega arith in
    rw (is, rest, more, next, pieces_from-cons separator (front_len separator text + 1) b text) refl

-- the pieces are the one in front and those behind its separator
split-front : (separator : ℕ) (text : List ℕ) → pieces_in separator text ≡ take (front_len separator text) text ∷ pieces_from separator (front_len separator text + 1) text
split-front separator [] = rw (pieces_from-past separator 1 [] (omega arith)) refl
split-front separator (b ∷ text) = split-cons separator b text (b == separator) refl (split-front separator text)

-- the pieces of what stands behind a byte
pieces_from-drop : (separator more from : ℕ) (text : List ℕ) → from ≤ length text → pieces_from separator more (drop from text) ≡ pieces_from separator (from + more) text
pieces_from-drop separator more from text within =
    let left : length (drop from text) ≡ length text - from = length-drop from text in
    elim (cases_lt (length (drop from text)) more) [
      | inl past ↦ pieces_from-past separator more (drop from text) past ∙ sym (pieces_from-past separator (from + more) text (omega arith))
      | inr inside ↦
          (pieces_from-within separator more (drop from text) inside ∙ ap (pieces_in separator) (drop-drop more from text)) ∙ sym (pieces_from-within separator (from + more) text (omega arith))
    ]

-- the pieces from a byte on are the piece in front and the pieces behind its separator
pub pieces_from-more : (separator from : ℕ) (text : List ℕ) → from ≤ length text → pieces_from separator from text ≡ take (front_len separator (drop from text)) (drop from text) ∷ pieces_from separator (from + front_len separator (drop from text) + 1) text
pieces_from-more separator from text within =
    let e : from + (front_len separator (drop from text) + 1) ≡ from + front_len separator (drop from text) + 1 = omega arith in
    rw (pieces_from-within separator from text within, split-front separator (drop from text), pieces_from-drop separator (front_len separator (drop from text) + 1) from text within, e) refl

-- what taking off a piece leaves
pub first-piece : (separator from len : ℕ) (text rest : List ℕ) → from ≤ length text → rest ≡ drop from text → len ≡ unwrap_or (position (λ b. b == separator) rest) (length rest) → (pieces_from separator from text ≡ take len rest ∷ pieces_from separator (from + (len + 1)) text) × (from + (len + 1) ≡ from + length (take len rest) + 1)
first-piece separator from len text rest within is len-is =
    let front : len ≡ front_len separator rest = len-is ∙ position-front separator rest in
    let short : len ≤ length rest = rw front (front-within separator rest) in
    let e : from + (front_len separator (drop from text) + 1) ≡ from + front_len separator (drop from text) + 1 = omega arith in
    (rw (front, is, e) (pieces_from-more separator from text within), omega (arith, length-take-le len rest short))
