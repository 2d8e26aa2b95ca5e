-- The deed that a printed line can be is one that prints so.
use Rattle.std.proofs.Common.{◌≡◌, ◌<◌, ◌≤◌, ℕ, ◌+◌, ◌^◌, ◌==◌, Bool, true, false, cond, List, [], ◌∷◌, ◌++◌, length, replicate, length-append, append_assoc, refl, ap, ◌∙◌, sym, subst, Option, Some, None, suc, arith}
use Rattle.std.specs.Prelude.{All, codes, decimal, map, nat_lt, option_map, slice_set}
use Rattle.std.specs.List.{flat_map, list_all}
use Rattle.std.specs.Str.{bytes_eq}
use Rattle.std.proofs.lemmas.Bool.{eqb-true}
use Rattle.std.proofs.lemmas.Bool.Decides.{nat_tests}
use Rattle.std.proofs.lemmas.Grind.{flat_map-append}
use Rattle.std.proofs.lemmas.List.{append-nil}
use Rattle.std.proofs.lemmas.List.Elements.{All-cons, All-nil}
use Rattle.std.proofs.lemmas.List.Folds.{flat_map-map}
use Rattle.std.proofs.lemmas.Slice.Eq.{bytes_eq-Decides}
use Rattle.acct_totals.specs.declared.op.Outcome.{Outcome}
use Rattle.acct_totals.specs.declared.op.Outcome.TheVariants.{Done, Refused}
use Rattle.base_codes.specs.DeedCodes.{all, coded, name_of, number_of}
use Rattle.base_codes.specs.declared.deed_code.DeedCode.{DeedCode}
use Rattle.base_codes.specs.declared.deed_code.DeedCode.TheVariants.{Unlisted, ToPeer, ToSession, Close, Dial, Undial, Arm, Disarm, SndCer, SndCea, SndDwa, SndDpr, SndDpa, SndMsg, Elect, Reserve, Debit, Release, Charge, Refund, Service}
use Rattle.base_text.specs.Numbers as numbers
use Rattle.event_text.specs.Deeds.{deed_name, name_or, without_last_zeros}
use Rattle.tab_law.specs.declared.limits.TheConstants.{PLACES}
use Rattle.text_parts.specs.Pieces.{pieces_in}
use Rattle.step_text.specs.Lines.{behind}
use Rattle.step_text.proofs.GuessLemmas.{passes}
use Rattle.step_text.proofs.DecimalLemmas.{decimal-without, number_of-decimal}
use Rattle.step_text.proofs.SolidLemmas.{and_both, are_solid, is_solid, split-behind}
use Rattle.log_text.specs.DeedLines.{IsDone, IsDeedLine, IsOutcome, args_of, behind_four, behind_stop, code_of, deed_in, deed_line, guess_deed, named_code, outcome_of, put_args, put_with, stop_of}
use Rattle.log_text.specs.EntryLines.{is_booking, outcome_text}
use Rattle.log_text.specs.declared.deed_line.DeedLine.{DeedLine}

-- the words of an outcome
abbrev outcome_words : Outcome → List (List ℕ)
outcome_words (Done amount unpaid) = codes "=" ∷ decimal amount ∷ decimal unpaid ∷ []
outcome_words Refused = codes "refused" ∷ []

-- those of the outcome, where it is told
abbrev ending : Bool → Outcome → List (List ℕ)
ending told outcome = cond told (outcome_words outcome) []

-- the word of a deed's code
abbrev name_word : ℕ → List ℕ
name_word code = name_or (deed_name code) code

-- those of its arguments
abbrev arg_words : List ℕ → List (List ℕ)
arg_words values = map decimal (without_last_zeros values)

-- the words behind its name
abbrev others_of : Bool → DeedLine → List (List ℕ)
others_of told d = arg_words d.deed.a ++ ending told d.outcome

-- those of its line behind the first blank, before which stands nothing
abbrev words_of : Bool → DeedLine → List (List ℕ)
words_of told d = [] ∷ [] ∷ [] ∷ name_word d.deed.code ∷ others_of told d

-- its line, with its outcome or without
abbrev line_with : Bool → DeedLine → List ℕ
line_with told d = (codes "    " ++ (name_word d.deed.code ++ flat_map (λ value. codes " " ++ decimal value) (without_last_zeros d.deed.a))) ++ cond told (outcome_text d.outcome) []

-- an outcome's words
outcome-words : (told : Bool) (outcome : Outcome) → cond told (outcome_text outcome) [] ≡ behind (ending told outcome)
outcome-words false outcome = refl
outcome-words true (Done amount unpaid) = rw (append-nil (decimal unpaid), append_assoc (decimal amount) (codes " ") (decimal unpaid)) refl
outcome-words true Refused = refl

-- arguments and an outcome as words
others-behind : (told : Bool) (d : DeedLine)
    → flat_map (λ value. codes " " ++ decimal value) (without_last_zeros d.deed.a) ++ cond told (outcome_text d.outcome) [] ≡ behind (others_of told d)
others-behind told d = rw (
  flat_map-append (λ (word : List ℕ). codes " " ++ word) (arg_words d.deed.a) (ending told d.outcome),
  flat_map-map (λ (word : List ℕ). codes " " ++ word) decimal (without_last_zeros d.deed.a),
  outcome-words told d.outcome,
) refl

-- a deed's line is made of words
line-behind : (told : Bool) (d : DeedLine) → line_with told d ≡ behind (words_of told d)
line-behind told d =
    ap (λ line. 32 ∷ 32 ∷ 32 ∷ 32 ∷ line)
    (append_assoc (name_word d.deed.code) (flat_map (λ value. codes " " ++ decimal value) (without_last_zeros d.deed.a)) (cond told (outcome_text d.outcome) [])
    ∙ ap (λ rest. name_word d.deed.code ++ rest) (others-behind told d))

-- a name has no blanks
name-solid : (code : DeedCode) → is_solid (name_of code) ≡ true
name-solid Unlisted = refl
name-solid ToPeer = refl
name-solid ToSession = refl
name-solid Close = refl
name-solid Dial = refl
name-solid Undial = refl
name-solid Arm = refl
name-solid Disarm = refl
name-solid SndCer = refl
name-solid SndCea = refl
name-solid SndDwa = refl
name-solid SndDpr = refl
name-solid SndDpa = refl
name-solid SndMsg = refl
name-solid Elect = refl
name-solid Reserve = refl
name-solid Debit = refl
name-solid Release = refl
name-solid Charge = refl
name-solid Refund = refl
name-solid Service = refl

-- a name is its own
named_code-name : (code : DeedCode) → named_code (name_of code) ≡ Some code
named_code-name Unlisted = refl
named_code-name ToPeer = refl
named_code-name ToSession = refl
named_code-name Close = refl
named_code-name Dial = refl
named_code-name Undial = refl
named_code-name Arm = refl
named_code-name Disarm = refl
named_code-name SndCer = refl
named_code-name SndCea = refl
named_code-name SndDwa = refl
named_code-name SndDpr = refl
named_code-name SndDpa = refl
named_code-name SndMsg = refl
named_code-name Elect = refl
named_code-name Reserve = refl
named_code-name Debit = refl
named_code-name Release = refl
named_code-name Charge = refl
named_code-name Refund = refl
named_code-name Service = refl

-- a name is no number
no_number : (code : DeedCode) → numbers.number_of (name_of code) ≡ None
unfolding numbers.number_of
no_number Unlisted = refl
no_number ToPeer = refl
no_number ToSession = refl
no_number Close = refl
no_number Dial = refl
no_number Undial = refl
no_number Arm = refl
no_number Disarm = refl
no_number SndCer = refl
no_number SndCea = refl
no_number SndDwa = refl
no_number SndDpr = refl
no_number SndDpa = refl
no_number SndMsg = refl
no_number Elect = refl
no_number Reserve = refl
no_number Debit = refl
no_number Release = refl
no_number Charge = refl
no_number Refund = refl
no_number Service = refl

-- a code that has a name has that number
coded-number : (code : ℕ) (named : DeedCode) → coded code ≡ Some named → number_of named ≡ code
unfolding coded
coded-number code named is = eqb-true (number_of named) code (passes (λ (entry : DeedCode). number_of entry == code) all named is)

-- a code's word has no blanks
name_word-solid : (code : ℕ) → code < 2 ^ 16 → is_solid (name_word code) ≡ true
name_word-solid code fits = by (coded code)
  where
    by : (found : Option DeedCode) → is_solid (name_or (option_map name_of found) code) ≡ true
    by None = decimal-without 32 code refl (omega arith)
    by (Some named) = name-solid named

-- a code's word is read
code_of-word : (code : ℕ) → code < 2 ^ 16 → code_of (name_word code) ≡ Some code
code_of-word code fits = by (coded code) refl
  where
    by : (found : Option DeedCode) → coded code ≡ found → code_of (name_or (option_map name_of found) code) ≡ Some code
    by None is =
        let small : nat_lt code (2 ^ 16) ≡ true = grind (arith, nat_tests) in
        rw (number_of-decimal code (omega arith), small) refl
    by (Some named) is = rw (no_number named, named_code-name named) (ap Some (coded-number code named is))

-- values without their last zeros fit too
values-fit : (values : List ℕ) → All (λ value. value < 2 ^ 64) values → All (λ value. value < 2 ^ 64) (without_last_zeros values)
values-fit [] fits = fits
values-fit (value ∷ values) fits =
    let rest : All (λ v. v < 2 ^ 64) (without_last_zeros values) = values-fit values (λ k d within. fits (suc k) d (omega arith)) in
    elim (list_all (λ v. v == 0) (value ∷ values)) as (λ b. All (λ v. v < 2 ^ 64) (cond b [] (value ∷ without_last_zeros values))) [
      | true ↦ All-nil (λ v. v < 2 ^ 64)
      | false ↦ All-cons (λ v. v < 2 ^ 64) value (without_last_zeros values) (fits 0 0 (omega arith)) rest
    ]

-- numbers have no blanks
numbers-solid : (values : List ℕ) (rest : List (List ℕ)) → All (λ value. value < 2 ^ 64) values → are_solid rest ≡ true → are_solid (map decimal values ++ rest) ≡ true
numbers-solid [] rest fits solid = solid
numbers-solid (value ∷ values) rest fits solid =
    rw (decimal-without 32 value refl (fits 0 0 (omega arith)), numbers-solid values rest (λ k d within. fits (suc k) d (omega arith)) solid) refl

-- nor has an outcome
ending-solid : (told : Bool) (outcome : Outcome) → IsOutcome outcome → are_solid (ending told outcome) ≡ true
ending-solid false outcome is = refl
ending-solid true (Done amount unpaid) is = rw (decimal-without 32 amount refl is.0, decimal-without 32 unpaid refl is.1) refl
ending-solid true Refused is = refl

-- a deed's line is cut into its words
line-cut : (told : Bool) (d : DeedLine) → IsDone d → pieces_in 32 (line_with told d) ≡ [] ∷ words_of told d
line-cut told d is =
    let others : are_solid (others_of told d) ≡ true = numbers-solid (without_last_zeros d.deed.a) (ending told d.outcome) (values-fit d.deed.a is.values) (ending-solid told d.outcome is.outcome) in
    let solid : are_solid (words_of told d) ≡ true = rw (name_word-solid d.deed.code is.code, others) refl in
    ap (pieces_in 32) (line-behind told d) ∙ split-behind [] (words_of told d) refl solid

-- the first word of an outcome is no number
equals-no_number : numbers.number_of (codes "=") ≡ None
unfolding numbers.number_of
equals-no_number = refl

-- nor is the other one
refused-no_number : numbers.number_of (codes "refused") ≡ None
unfolding numbers.number_of
refused-no_number = refl

-- so no argument is put by its words
ending-puts : (told : Bool) (outcome : Outcome) (a : List ℕ) (n : ℕ) → put_args (ending told outcome) a n ≡ a
ending-puts false outcome a n = refl
ending-puts true (Done amount unpaid) a n = rw equals-no_number refl
ending-puts true Refused a n = rw refused-no_number refl

-- values that are 0 are zeros
zeros : (values : List ℕ) → list_all (λ v. v == 0) values ≡ true → replicate (length values) 0 ≡ values
zeros [] all_zero = refl
zeros (value ∷ values) all_zero =
    let both = and_both (value == 0) (list_all (λ v. v == 0) values) all_zero in
    let is : value ≡ 0 = eqb-true value 0 both.0 in
    rw (zeros values both.1, is) refl

-- a value put behind those that are there
set_at-end : (done rest : List ℕ) (old value : ℕ) → slice_set (done ++ old ∷ rest) (length done) value ≡ (done ++ value ∷ []) ++ rest
set_at-end [] rest old value = refl
set_at-end (d ∷ done) rest old value = ap (λ xs. d ∷ xs) (set_at-end done rest old value)

-- an argument that is printed is put
put-decimal : (goes_on : List ℕ → ℕ → List ℕ) (n value : ℕ) (a : List ℕ) → n < PLACES → value < 2 ^ 64
    → put_with goes_on n a (numbers.number_of (decimal value)) ≡ goes_on (slice_set a n value) (n + 1)
put-decimal goes_on n value a within fits =
    let room : nat_lt n PLACES ≡ true = grind (arith, nat_tests) in
    rw (number_of-decimal value fits, room) refl

-- the arguments that are left are put where zeros are
put_words : (told : Bool) (outcome : Outcome) (done values : List ℕ) → length done + length values ≤ PLACES → All (λ value. value < 2 ^ 64) values
    → put_args (arg_words values ++ ending told outcome) (done ++ replicate (length values) 0) (length done) ≡ done ++ values
put_words told outcome done [] room fits = ending-puts told outcome (done ++ []) (length done)
put_words told outcome done (value ∷ values) room fits =
    let one : length (done ++ value ∷ []) ≡ length done + 1 = length-append done (value ∷ []) in
    let rest : put_args (arg_words values ++ ending told outcome) ((done ++ value ∷ []) ++ replicate (length values) 0) (length done + 1) ≡ (done ++ value ∷ []) ++ values =
    subst (λ (n : ℕ). put_args (arg_words values ++ ending told outcome) ((done ++ value ∷ []) ++ replicate (length values) 0) n ≡ (done ++ value ∷ []) ++ values) one
    (put_words told outcome (done ++ value ∷ []) values (omega (arith, one)) (λ k d within. fits (suc k) d (omega arith))) in
    elim (list_all (λ v. v == 0) (value ∷ values)) as (λ b. list_all (λ v. v == 0) (value ∷ values) ≡ b
    → put_args (map decimal (cond b [] (value ∷ without_last_zeros values)) ++ ending told outcome) (done ++ 0 ∷ replicate (length values) 0) (length done) ≡ done ++ value ∷ values) [
      | true ↦ λ e. ending-puts told outcome _ (length done) ∙ ap (λ xs. done ++ xs) (zeros (value ∷ values) e)
      | false ↦ λ e.
          put-decimal (put_args (arg_words values ++ ending told outcome)) (length done) value (done ++ 0 ∷ replicate (length values) 0) (omega arith) (fits 0 0 (omega arith))
          ∙ ap (λ a. put_args (arg_words values ++ ending told outcome) a (length done + 1)) (set_at-end done (replicate (length values) 0) 0 value)
          ∙ rest ∙ append_assoc done (value ∷ []) values
    ] refl

-- the arguments of a deed's line
args_of-words : (told : Bool) (outcome : Outcome) (a : List ℕ) → length a ≡ PLACES → All (λ value. value < 2 ^ 64) a → args_of (arg_words a ++ ending told outcome) ≡ a
args_of-words told outcome a places fits =
    subst (λ (n : ℕ). put_args (arg_words a ++ ending told outcome) (replicate n 0) 0 ≡ a) places (put_words told outcome [] a (omega arith) fits)

-- numbers don't stop arguments
stop_of-numbers : (values : List ℕ) (rest : List (List ℕ)) → All (λ value. value < 2 ^ 64) values → stop_of (map decimal values ++ rest) ≡ stop_of rest
stop_of-numbers [] rest fits = refl
stop_of-numbers (value ∷ values) rest fits =
    rw (number_of-decimal value (fits 0 0 (omega arith))) (stop_of-numbers values rest (λ k d within. fits (suc k) d (omega arith)))

-- nor do they stand behind the stop
behind_stop-numbers : (values : List ℕ) (rest : List (List ℕ)) → All (λ value. value < 2 ^ 64) values → behind_stop (map decimal values ++ rest) ≡ behind_stop rest
behind_stop-numbers [] rest fits = refl
behind_stop-numbers (value ∷ values) rest fits =
    rw (number_of-decimal value (fits 0 0 (omega arith))) (behind_stop-numbers values rest (λ k d within. fits (suc k) d (omega arith)))

-- what an outcome's words tell: that it was refused, where there are none
ending-outcome : (told : Bool) (outcome : Outcome) → IsOutcome outcome → outcome_of (stop_of (ending told outcome)) (behind_stop (ending told outcome)) ≡ Some (cond told outcome Refused)
ending-outcome false outcome is = refl
ending-outcome true (Done amount unpaid) is = rw (equals-no_number, number_of-decimal amount is.0, number_of-decimal unpaid is.1) refl
ending-outcome true Refused is = rw refused-no_number refl

-- the outcome of a deed's line
outcome_of-words : (told : Bool) (d : DeedLine) → IsDone d → outcome_of (stop_of (others_of told d)) (behind_stop (others_of told d)) ≡ Some (cond told d.outcome Refused)
outcome_of-words told d is =
    let fit : All (λ value. value < 2 ^ 64) (without_last_zeros d.deed.a) = values-fit d.deed.a is.values in
    rw (stop_of-numbers (without_last_zeros d.deed.a) (ending told d.outcome) fit, behind_stop-numbers (without_last_zeros d.deed.a) (ending told d.outcome) fit)
    (ending-outcome told d.outcome is.outcome)

-- the deed that its line tells: one that isn't of the account book was refused
abbrev told_deed : Bool → DeedLine → DeedLine
told_deed told d = record { deed = d.deed; outcome = cond told d.outcome Refused }

-- a deed's words are read
deed_in-words : (told : Bool) (d : DeedLine) → IsDone d → deed_in (name_word d.deed.code ∷ others_of told d) ≡ Some (told_deed told d)
deed_in-words told d is = rw (
  code_of-word d.deed.code is.code,
  outcome_of-words told d is,
  args_of-words told d.outcome d.deed.a is.places is.values,
) refl

-- that deed has the same line
told-line : (told : Bool) (d : DeedLine) → line_with told (told_deed told d) ≡ line_with told d
told-line true d = refl
told-line false d = refl

-- the deed that is read of a deed's line
abbrev read_back : DeedLine → DeedLine
read_back d = told_deed (is_booking d.deed.code) d

-- a line that a deed has is read
line-reads : (d : DeedLine) → IsDone d → guess_deed (deed_line d) ≡ Some (read_back d)
line-reads d is = ap behind_four (line-cut (is_booking d.deed.code) d is) ∙ deed_in-words (is_booking d.deed.code) d is

-- what is read has the line
same-line : (d : DeedLine) → deed_line (read_back d) ≡ deed_line d
same-line d = told-line (is_booking d.deed.code) d

-- no deed has a line that can be none
pub no_guess : (line : List ℕ) → guess_deed line ≡ None → IsDeedLine line → ⊥
no_guess line none is = cc (sym none ∙ ap guess_deed (sym is.has) ∙ line-reads is.deed is.is)

-- nor one that can only be a deed of another line
pub other_guess : (line : List ℕ) (guess : DeedLine) → guess_deed line ≡ Some guess → bytes_eq (deed_line guess) line ≡ false → IsDeedLine line → ⊥
other_guess line guess some other is =
    let one : guess ≡ read_back is.deed = some_is guess (read_back is.deed) (sym some ∙ ap guess_deed (sym is.has) ∙ line-reads is.deed is.is) in
    let has : deed_line guess ≡ line = ap deed_line one ∙ same-line is.deed ∙ is.has in
    let passes : bytes_eq (deed_line guess) line ≡ true = (bytes_eq-Decides (deed_line guess) line).1 has in
    cc (sym other ∙ passes)
  where
    some_is : (a b : DeedLine) → Some a ≡ Some b → a ≡ b
    some_is a b e = cc
