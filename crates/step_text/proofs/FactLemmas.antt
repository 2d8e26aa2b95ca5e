-- Facts that are printed read back.
use Rattle.std.proofs.Common.{◌≡◌, ◌<◌, ◌≤◌, ℕ, ◌+◌, ◌^◌, ◌==◌, true, false, cond, List, [], ◌∷◌, ◌++◌, length, refl, ap, ◌∙◌, sym, subst, Some, suc, append_assoc, arith, replicate, length-append}
use Rattle.std.specs.Prelude.{not, nat_lt, slice_set, All, decimal}
use Rattle.std.specs.List.{list_all, slice_split}
use Rattle.std.proofs.lemmas.Bool.{eqb-true}
use Rattle.std.proofs.lemmas.Bool.Decides.{nat_tests}
use Rattle.event_text.specs.Events.{fact_of}
use Rattle.tab_law.specs.declared.limits.TheConstants.{PLACES}
use Rattle.step_text.specs.Guess.{facts_in, put_all, put_fact}
use Rattle.step_text.specs.Lines.{fact_word, fact_words}
use Rattle.step_text.proofs.DecimalLemmas.{decimal-without, number_of-decimal}
use Rattle.step_text.proofs.SolidLemmas.{and_both}

other_octet : (c : ℕ) → not (c == 61) ≡ true → (c == 61) ≡ false
other_octet c other = elim (c == 61) as (λ b. not b ≡ true → b ≡ false) [ true ↦ λ e. absurd (cc) | false ↦ λ e. refl ] other

whole_part : (part : List ℕ) → list_all (λ c. not (c == 61)) part ≡ true → slice_split (λ c. c == 61) part ≡ part ∷ []
whole_part [] solid = refl
whole_part (c ∷ part) solid =
    let both = and_both (not (c == 61)) (list_all (λ c. not (c == 61)) part) solid in
    rw (other_octet c both.0, whole_part part both.1) refl

-- two parts with `=` between
two_parts : (one other : List ℕ) → list_all (λ c. not (c == 61)) one ≡ true → list_all (λ c. not (c == 61)) other ≡ true
    → slice_split (λ c. c == 61) (one ++ 61 ∷ other) ≡ one ∷ other ∷ []
two_parts [] other solid second = ap (λ parts. [] ∷ parts) (whole_part other second)
two_parts (c ∷ one) other solid second =
    let both = and_both (not (c == 61)) (list_all (λ c. not (c == 61)) one) solid in
    rw (other_octet c both.0, two_parts one other both.1 second) refl

-- a fact that is printed
fact_of-word : (number value : ℕ) → number < PLACES → value < 2 ^ 64 → fact_of (fact_word number value) ≡ Some (number, value)
unfolding fact_of
fact_of-word number value within fits =
    let small : number < 2 ^ 64 = omega arith in
    let below : nat_lt number PLACES ≡ true = grind (arith, nat_tests) in
    rw (
      append_assoc,
      two_parts (decimal number) (decimal value) (decimal-without 61 number refl small) (decimal-without 61 value refl fits),
      number_of-decimal number small,
      number_of-decimal value fits,
      below,
    ) refl

-- a value put behind those that are there
set_at-end : (done rest : List ℕ) (old value : ℕ) → slice_set (done ++ old ∷ rest) (length done) value ≡ (done ++ value ∷ []) ++ rest
set_at-end [] rest old value = refl
set_at-end (d ∷ done) rest old value = ap (λ xs. d ∷ xs) (set_at-end done rest old value)

snoc : (done rest : List ℕ) (value : ℕ) → done ++ value ∷ rest ≡ (done ++ value ∷ []) ++ rest
snoc done rest value = sym (append_assoc done (value ∷ []) rest)

-- the values that are left are put where zeros are
put_words : (done values : List ℕ) → length done + length values ≤ PLACES → All (λ value. value < 2 ^ 64) values
    → put_all (fact_words (length done) values) (done ++ replicate (length values) 0) ≡ done ++ values
put_words done [] room fits = refl
put_words done (value ∷ values) room fits =
    let one : length (done ++ value ∷ []) ≡ length done + 1 = length-append done (value ∷ []) in
    let rest : put_all (fact_words (length done + 1) values) ((done ++ value ∷ []) ++ replicate (length values) 0) ≡ (done ++ value ∷ []) ++ values =
    subst (λ (n : ℕ). put_all (fact_words n values) ((done ++ value ∷ []) ++ replicate (length values) 0) ≡ (done ++ value ∷ []) ++ values) one
    (put_words (done ++ value ∷ []) values (omega (arith, one)) (λ k d within. fits (suc k) d (omega arith))) in
    elim (value == 0) as (λ b. (value == 0) ≡ b → put_all (cond b (fact_words (length done + 1) values) (fact_word (length done) value ∷ fact_words (length done + 1) values)) (done ++ 0 ∷ replicate (length values) 0) ≡ done ++ value ∷ values) [
      | true ↦ λ e.
          let is : value ≡ 0 = eqb-true value 0 e in
          ap (λ facts. put_all (fact_words (length done + 1) values) facts) (ap (λ v. done ++ v ∷ replicate (length values) 0) (sym is) ∙ snoc done (replicate (length values) 0) value)
          ∙ rest ∙ sym (snoc done values value)
      | false ↦ λ e.
          let put : put_fact (fact_of (fact_word (length done) value)) (done ++ 0 ∷ replicate (length values) 0) ≡ (done ++ value ∷ []) ++ replicate (length values) 0 =
          ap (λ fact. put_fact fact (done ++ 0 ∷ replicate (length values) 0)) (fact_of-word (length done) value (omega arith) (fits 0 0 (omega arith)))
          ∙ set_at-end done (replicate (length values) 0) 0 value in
          ap (λ facts. put_all (fact_words (length done + 1) values) facts) put ∙ rest ∙ sym (snoc done values value)
    ] refl

pub facts_in-words : (facts : List ℕ) → length facts ≡ PLACES → All (λ value. value < 2 ^ 64) facts → facts_in (fact_words 0 facts) ≡ facts
facts_in-words facts places fits =
    subst (λ (n : ℕ). put_all (fact_words 0 facts) (replicate n 0) ≡ facts) places (put_words [] facts (omega arith) fits)
