-- Names, shown and read back.
use Rattle.std.proofs.Common.{◌≡◌, ◌<◌, ◌≤◌, ℕ, ◌+◌, ◌*◌, ◌==◌, true, false, List, [], ◌∷◌, ◌++◌, length, drop, get_or, refl, ap, ◌∙◌, sym, suc, arith}
use Rattle.std.proofs.Common.{◌≢◌, append_assoc, length-drop, eq-eqb}
use Rattle.std.proofs.lemmas.Bool.Decides.{nat_tests}
use Rattle.std.proofs.Math.Seq.{drop-cons}
use Rattle.step_text.specs.Guess.{nibble, unshown}

-- an octet that is no `%` stands for itself
pub unshown-plain : (c : ℕ) (rest : List ℕ) → (c == 37) ≡ false → unshown (c ∷ rest) ≡ c ∷ unshown rest
unshown-plain c [] plain = refl
unshown-plain c (d ∷ []) plain = refl
unshown-plain c (d ∷ e ∷ rest) plain = rw plain refl

-- so does one with fewer than two behind it
pub unshown-short : (c : ℕ) (rest : List ℕ) → length rest < 2 → unshown (c ∷ rest) ≡ c ∷ unshown rest
unshown-short c [] short = refl
unshown-short c (d ∷ []) short = refl
unshown-short c (d ∷ e ∷ rest) short = absurd (omega arith)

-- `%` and two digits
pub unshown-pair : (c d e : ℕ) (rest : List ℕ) → (c == 37) ≡ true → unshown (c ∷ d ∷ e ∷ rest) ≡ (nibble d * 16 + nibble e) ∷ unshown rest
unshown-pair c d e rest percent = rw percent refl

-- two digits behind a `%` in a word
pub unshown_at-pair : (word : List ℕ) (at : ℕ) → at + 2 < length word → get_or word at 0 ≡ 37
    → unshown (drop at word) ≡ (nibble (get_or word (at + 1) 0) * 16 + nibble (get_or word (at + 2) 0)) ∷ unshown (drop (at + 3) word)
unshown_at-pair word at within percent =
    let one : drop at word ≡ get_or word at 0 ∷ drop (suc at) word = drop-cons word at 0 (omega arith) in
    let two : drop (suc at) word ≡ get_or word (suc at) 0 ∷ drop (suc (suc at)) word = drop-cons word (suc at) 0 (omega arith) in
    let three : drop (suc (suc at)) word ≡ get_or word (suc (suc at)) 0 ∷ drop (suc (suc (suc at))) word = drop-cons word (suc (suc at)) 0 (omega arith) in
    let first : at + 1 ≡ suc at = omega arith in
    let second : at + 2 ≡ suc (suc at) = omega arith in
    let third : at + 3 ≡ suc (suc (suc at)) = omega arith in
    rw (first, second, third, one, two, three)
    (unshown-pair (get_or word at 0) (get_or word (suc at) 0) (get_or word (suc (suc at)) 0) (drop (suc (suc (suc at))) word) (eq-eqb (get_or word at 0) 37 percent))

-- another octet of a word
pub unshown_at-plain : (word : List ℕ) (at : ℕ) → at < length word → get_or word at 0 ≢ 37
    → unshown (drop at word) ≡ get_or word at 0 ∷ unshown (drop (at + 1) word)
unshown_at-plain word at within plain =
    let one : drop at word ≡ get_or word at 0 ∷ drop (suc at) word = drop-cons word at 0 within in
    let first : at + 1 ≡ suc at = omega arith in
    rw (first, one) (unshown-plain (get_or word at 0) (drop (suc at) word) (grind (arith, nat_tests)))

-- an octet of a word's last two
pub unshown_at-short : (word : List ℕ) (at : ℕ) → at < length word → length word ≤ at + 2
    → unshown (drop at word) ≡ get_or word at 0 ∷ unshown (drop (at + 1) word)
unshown_at-short word at within short =
    let one : drop at word ≡ get_or word at 0 ∷ drop (suc at) word = drop-cons word at 0 within in
    let first : at + 1 ≡ suc at = omega arith in
    rw (first, one) (unshown-short (get_or word at 0) (drop (suc at) word) (omega (arith, length-drop (suc at) word)))

-- one octet more of a name
pub goes_on : (name new before after whole : List ℕ) (v : ℕ) → new ≡ name ++ v ∷ [] → before ≡ v ∷ after → name ++ before ≡ whole → new ++ after ≡ whole
goes_on name new before after whole v is more so_far =
    ap (λ t. t ++ after) is ∙ append_assoc name (v ∷ []) after ∙ ap (λ t. name ++ t) (sym more) ∙ so_far
