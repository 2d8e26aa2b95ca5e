-- What is compared one after another is compared as a whole.
use Rattle.std.proofs.Common.{◌≡◌, ◌≢◌, ◌<◌, ◌≤◌, ◌==◌, ◌&&◌, ◌+◌, ◌-◌, ◌*◌, ℕ, Bool, append_assoc, eq-eqb, true, false, cond, List, [], ◌∷◌, ◌++◌, Option, Some, None, refl, length, get_or, drop, suc, sym, ◌∙◌, ap, arith}
use Rattle.std.specs.Prelude.{codes, decimal, take}
use Rattle.std.specs.Str.{bytes_eq}
use Rattle.std.proofs.lemmas.Bool.{ne_eqb}
use Rattle.std.proofs.Math.ListN.{drop_of_length-le}
use Rattle.std.proofs.Math.Seq.{drop-cons, take-length}
use Rattle.hex.specs.Hex.{encode_lower, encode_with}
use Rattle.bench_item.specs.declared.key.Role.{Role}
use Rattle.bench_item.specs.declared.key.Role.TheVariants.{Peer, Client, Server}
use Rattle.step_text.specs.Matching.{behind_front, is_done, without}
use Rattle.step_text.specs.Names.{prefix_of, shown, shown_octet}
use Rattle.step_text.specs.Guess.{nibble}
use Rattle.step_text.specs.Lines.{behind, fact_word, fact_words}
use Rattle.step_text.specs.Shown.{octets_in}

pub without-nil : (text : Option (List ℕ)) → without [] text ≡ text
unfolding without
without-nil None = refl
without-nil (Some text) = refl

behind_front-append : (one other text : List ℕ) → behind_front (one ++ other) text ≡ without other (behind_front one text)
unfolding without
behind_front-append [] other text = refl
behind_front-append (c ∷ one) other [] = refl
behind_front-append (c ∷ one) other (d ∷ text) =
    elim (c == d) as (λ b. cond b (behind_front (one ++ other) text) None ≡ without other (cond b (behind_front one text) None)) [
      | true ↦ behind_front-append one other text
      | false ↦ refl
    ]

-- a text that ends before the front does
pub behind_front-short : (front left : List ℕ) (at : ℕ) → at < length front → length left < 1 → None ≡ behind_front (drop at front) left
behind_front-short front [] at within short = let first : drop at front ≡ get_or front at 0 ∷ drop (suc at) front = drop-cons front at 0 within in rw first refl
behind_front-short front (c ∷ left) at within short = absurd (omega arith)

pub without-append : (one other : List ℕ) (text : Option (List ℕ)) → without (one ++ other) text ≡ without other (without one text)
unfolding without
without-append one other None = refl
without-append one other (Some text) = behind_front-append one other text

pub without-cons : (c : ℕ) (other : List ℕ) (text : Option (List ℕ)) → without (c ∷ other) text ≡ without other (without (c ∷ []) text)
without-cons c other text = without-append (c ∷ []) other text

is_done-behind_front : (printed text : List ℕ) → is_done (behind_front printed text) ≡ bytes_eq printed text
is_done-behind_front [] [] = refl
is_done-behind_front [] (d ∷ text) = refl
is_done-behind_front (c ∷ printed) [] = refl
is_done-behind_front (c ∷ printed) (d ∷ text) =
    elim (c == d) as (λ b. is_done (cond b (behind_front printed text) None) ≡ (b && bytes_eq printed text)) [
      | true ↦ is_done-behind_front printed text
      | false ↦ refl
    ]

-- nothing is left of a text exactly where it is what was compared
pub is_done-without : (printed text : List ℕ) → is_done (without printed (Some text)) ≡ bytes_eq printed text
unfolding without
is_done-without printed text = is_done-behind_front printed text

-- the name of a key as it is printed
pub shown-prefix : (role : Role) (name : List ℕ) → shown (prefix_of role ++ name) ≡ prefix_of role ++ shown name
shown-prefix Peer name = refl
shown-prefix Client name = refl
shown-prefix Server name = refl

-- one octet before others in hexadecimal
pub encode_lower-cons : (c : ℕ) (octets : List ℕ) → encode_lower (c ∷ octets) ≡ encode_lower (c ∷ []) ++ encode_lower octets
unfolding encode_with
encode_lower-cons c octets = refl

-- a name whose next octet is compared
pub name-compared : (name : List ℕ) (at : ℕ) (start next whole : Option (List ℕ)) → at < length name → next ≡ without (shown_octet (get_or name at 0)) start
    → without (shown (drop at name)) start ≡ whole → without (shown (drop (at + 1) name)) next ≡ whole
name-compared name at start next whole within one so_far =
    let cut : drop at name ≡ get_or name at 0 ∷ drop (suc at) name = drop-cons name at 0 within in
    let more : at + 1 ≡ suc at = omega arith in
    rw more (
    ap (without (shown (drop (suc at) name))) one ∙ sym (without-append (shown_octet (get_or name at 0)) (shown (drop (suc at) name)) start)
    ∙ ap (λ name. without (shown name) start) (sym cut) ∙ so_far
    )

pub name-done : (name : List ℕ) (at : ℕ) (text whole : Option (List ℕ)) → length name ≤ at → without (shown (drop at name)) text ≡ whole → text ≡ whole
name-done name at text whole past so_far =
    let none : drop at name ≡ [] = drop_of_length-le name past in
    sym (without-nil text) ∙ ap (λ name. without (shown name) text) (sym none) ∙ so_far

-- pairs whose first octet is compared
pub pairs-compared : (digits : List ℕ) (start next whole : Option (List ℕ)) → 2 ≤ length digits
    → next ≡ without (encode_lower ((nibble (get_or digits 0 0) * 16 + nibble (get_or digits 1 0)) ∷ [])) start
    → without (encode_lower (octets_in digits)) start ≡ whole → without (encode_lower (octets_in (take (length digits - 2) (drop 2 digits)))) next ≡ whole
pairs-compared [] start next whole two one so_far = absurd (omega arith)
pairs-compared (digit ∷ []) start next whole two one so_far = absurd (omega arith)
pairs-compared (high ∷ low ∷ others) start next whole two one so_far =
    let left : length (high ∷ low ∷ others) - 2 ≡ length others = omega arith in
    let octet = nibble high * 16 + nibble low in
    rw (left, take-length others) (
    ap (without (encode_lower (octets_in others))) one ∙ sym (without-append (encode_lower (octet ∷ [])) (encode_lower (octets_in others)) start)
    ∙ ap (λ digits. without digits start) (sym (encode_lower-cons octet (octets_in others))) ∙ so_far
    )

pub pairs-done : (digits : List ℕ) (text whole : Option (List ℕ)) → length digits < 2 → without (encode_lower (octets_in digits)) text ≡ whole → text ≡ whole
unfolding encode_with
pairs-done [] text whole short so_far = sym (without-nil text) ∙ so_far
pairs-done (digit ∷ []) text whole short so_far = sym (without-nil text) ∙ so_far
pairs-done (high ∷ low ∷ others) text whole short so_far = absurd (omega arith)

-- a fact before others
fact-whole : (number value others : List ℕ) (text : Option (List ℕ))
    → without ((codes " " ++ ((number ++ codes "=") ++ value)) ++ others) text ≡ without others (without (codes "=" ++ value) (without (codes " " ++ number) text))
fact-whole number value others text =
    without-append (codes " " ++ ((number ++ codes "=") ++ value)) others text
    ∙ ap (without others) (ap (λ word. without (32 ∷ word) text) (append_assoc number (codes "=") value) ∙ without-append (codes " " ++ number) (codes "=" ++ value) text)

pub fact-compared : (facts : List ℕ) (number : ℕ) (start first next whole : Option (List ℕ)) → number < length facts → get_or facts number 0 ≢ 0
    → first ≡ without (codes " " ++ decimal number) start → next ≡ without (codes "=" ++ decimal (get_or facts number 0)) first
    → without (behind (fact_words number (drop number facts))) start ≡ whole → without (behind (fact_words (number + 1) (drop (number + 1) facts))) next ≡ whole
fact-compared facts number start first next whole within some one two so_far =
    let value = get_or facts number 0 in
    let cut : drop number facts ≡ value ∷ drop (suc number) facts = drop-cons facts number 0 within in
    let more : number + 1 ≡ suc number = omega arith in
    let other : (value == 0) ≡ false = ne_eqb value 0 some in
    let words : fact_words number (drop number facts) ≡ fact_word number value ∷ fact_words (number + 1) (drop (suc number) facts) = rw (cut, other) refl in
    rw (ap (λ (n : ℕ). drop n facts) more) (
    two' ∙ sym (fact-whole (decimal number) (decimal value) (behind (fact_words (number + 1) (drop (suc number) facts))) start)
    ∙ ap (λ words. without (behind words) start) (sym words) ∙ so_far
    )
  where
    two' : without (behind (fact_words (number + 1) (drop (suc number) facts))) next
        ≡ without (behind (fact_words (number + 1) (drop (suc number) facts))) (without (codes "=" ++ decimal (get_or facts number 0)) (without (codes " " ++ decimal number) start))
    two' = ap (without (behind (fact_words (number + 1) (drop (suc number) facts)))) (two ∙ ap (without (codes "=" ++ decimal (get_or facts number 0))) one)

pub fact-passed : (facts : List ℕ) (number : ℕ) (text whole : Option (List ℕ)) → number < length facts → get_or facts number 0 ≡ 0
    → without (behind (fact_words number (drop number facts))) text ≡ whole → without (behind (fact_words (number + 1) (drop (number + 1) facts))) text ≡ whole
fact-passed facts number text whole within none so_far =
    let value = get_or facts number 0 in
    let cut : drop number facts ≡ value ∷ drop (suc number) facts = drop-cons facts number 0 within in
    let more : number + 1 ≡ suc number = omega arith in
    let same : (value == 0) ≡ true = eq-eqb value 0 none in
    let words : fact_words number (drop number facts) ≡ fact_words (number + 1) (drop (suc number) facts) = rw (cut, same) refl in
    rw (ap (λ (n : ℕ). drop n facts) more) (ap (λ words. without (behind words) text) (sym words) ∙ so_far)

pub facts-done : (facts : List ℕ) (number : ℕ) (text whole : Option (List ℕ)) → length facts ≤ number → without (behind (fact_words number (drop number facts))) text ≡ whole → text ≡ whole
facts-done facts number text whole past so_far =
    let none : drop number facts ≡ [] = drop_of_length-le facts past in
    sym (without-nil text) ∙ ap (λ facts. without (behind (fact_words number facts)) text) (sym none) ∙ so_far

-- a whole line
pub line-compared : (one other line printed : List ℕ) (start first second : Option (List ℕ)) (result : Bool) → start ≡ Some line → printed ≡ one → first ≡ without printed start
    → second ≡ without other first → result ≡ is_done second → result ≡ bytes_eq (one ++ other) line
line-compared one other line printed start first second result begun same front whole done =
    done ∙ ap is_done (whole ∙ ap (without other) (front ∙ ap (λ printed. without printed start) same ∙ ap (without one) begun) ∙ sym (without-append one other (Some line)))
    ∙ is_done-without (one ++ other) line

pub ruleset comparing = (without-nil, without-append, without-cons, shown-prefix, encode_lower-cons)
