-- What a line can be is a step as there may be one.
use Rattle.std.proofs.Common.{◌≡◌, ◌<◌, ℕ, ◌+◌, ◌*◌, ◌^◌, ◌==◌, ◌&&◌, lit<, Fits, w8, eq-eqb, Bool, true, false, cond, List, [], ◌∷◌, length, get_or, refl, ap, ◌∙◌, sym, subst, Option, Some, None, zero, suc, arith, replicate}
use Rattle.std.specs.Prelude.{All, IsSomeAnd, codes, find, nat_lt, option_and_then, option_map, slice_get}
use Rattle.std.specs.List.{list_all, onto_first, slice_split}
use Rattle.std.specs.Str.{bytes_eq}
use Rattle.std.proofs.lemmas.Bool.{ltb-true}
use Rattle.std.proofs.lemmas.Bool.Decides.{nat_tests}
use Rattle.std.proofs.lemmas.Option.{slice_get-get_or}
use Rattle.std.proofs.lemmas.List.Elements.{All-head, All-replicate, All-set, All-tail}
use Rattle.std.proofs.lemmas.List.Quantifiers.{position-Some}
use Rattle.std.proofs.lemmas.Slice.Eq.{bytes_eq-Decides}
use Rattle.std.proofs.Math.ListN.{length-set}
use Rattle.base_list.specs.Named.{entry_of, place_of}
use Rattle.base_list.specs.declared.named.Named.{Named}
use Rattle.base_text.specs.Numbers.{decimal_value, is_digit, is_word, number_of}
use Rattle.event_text.specs.Events.{fact_between, fact_of, fact_with}
use Rattle.hex.specs.Hex.{IsBytes}
use Rattle.tab_law.specs.declared.limits.TheConstants.{PLACES}
use Rattle.text_parts.specs.Pieces.{pieces_in}
use Rattle.bench_item.specs.declared.key.Key.{Key}
use Rattle.bench_item.specs.declared.key.Role.{Role}
use Rattle.bench_item.specs.declared.source.Source.{Source}
use Rattle.bench_item.specs.declared.source.Source.TheVariants.{Line, Shard, Desk, Clock}
use Rattle.bench_item.specs.declared.step.Step.{Step}
use Rattle.bench_item.specs.declared.step.Step.TheVariants as one
use Rattle.step_text.specs.declared.command.Command.{Command}
use Rattle.step_text.specs.declared.command.Command.TheVariants.{Join, Dialled, Came, Lost, Told, Fired, Lift, Drop, Work}
use Rattle.step_text.specs.Commands.{command_of}
use Rattle.step_text.specs.Guess.{came_of, came_with, facts_in, fired_of, fired_with, first_key, guess_of, key_of, kind_of, large, machine_of, narrow, nibble, piece_of, put_all, put_fact, rest_of, role_of, small, source_of, told_of, told_with, unshown}
use Rattle.step_text.specs.Names.{Names}
use Rattle.step_text.specs.Shown.{are_pairs, octets_in}
use Rattle.step_text.specs.Steps.{IsSource, IsStep, guess_line, guess_words}
use Rattle.step_text.proofs.PairLemmas.{pairs_are}

some_is : {X : Type 0} (a b : X) → Some a ≡ Some b → a ≡ b
some_is a b e = cc

-- numbers fit

pub narrow-fits : (o : Option ℕ) (n : ℕ) → narrow o ≡ Some n → n < 2 ^ 32
narrow-fits None n is = absurd (cc)
narrow-fits (Some m) n is = elim (nat_lt m (2 ^ 32)) as (λ b. nat_lt m (2 ^ 32) ≡ b → cond b (Some m) None ≡ Some n → n < 2 ^ 32) [
  | true ↦ λ e h. subst (λ (k : ℕ). k < 2 ^ 32) (some_is m n h) (ltb-true m (2 ^ 32) e)
  | false ↦ λ e h. absurd (cc)
] refl is

value_fits : (word : Bool) (v n : ℕ) → cond (word && nat_lt v (2 ^ 64)) (Some v) None ≡ Some n → n < 2 ^ 64
value_fits true v n is = elim (nat_lt v (2 ^ 64)) as (λ b. nat_lt v (2 ^ 64) ≡ b → cond b (Some v) None ≡ Some n → n < 2 ^ 64) [
  | true ↦ λ e h. subst (λ (k : ℕ). k < 2 ^ 64) (some_is v n h) (ltb-true v (2 ^ 64) e)
  | false ↦ λ e h. absurd (cc)
] refl is
value_fits false v n is = absurd (cc)

pub number_of-fits : (word : List ℕ) (n : ℕ) → number_of word ≡ Some n → n < 2 ^ 64
unfolding number_of
number_of-fits word n is = value_fits (is_word word && list_all is_digit word) (decimal_value word) n is

pub large-fits : (words : List (List ℕ)) (n : ℕ) → large words ≡ Some n → n < 2 ^ 64
large-fits [] n is = absurd (cc)
large-fits (word ∷ words) n is = number_of-fits word n is

-- octets are octets

abbrev pub AreBytes : List (List ℕ) → Type 0
AreBytes [] = Unit {0}
AreBytes (word ∷ words) = IsBytes word × AreBytes words

pub IsBytes-fits : (octets : List ℕ) → ((i : ℕ) → Fits w8 (get_or octets i 0)) → IsBytes octets
IsBytes-fits octets fits i = omega (arith, fits i)

IsBytes-nil : IsBytes []
IsBytes-nil i = lit< tt

IsBytes-cons : (c : ℕ) (word : List ℕ) → c < 256 → IsBytes word → IsBytes (c ∷ word)
IsBytes-cons c word fits bytes zero = fits
IsBytes-cons c word fits bytes (suc i) = bytes i

IsBytes-tail : (c : ℕ) (word : List ℕ) → IsBytes (c ∷ word) → IsBytes word
IsBytes-tail c word bytes i = bytes (suc i)

pub pieces-bytes : (text : List ℕ) → IsBytes text → AreBytes (slice_split (λ b. b == 32) text)
pieces-bytes [] bytes = (IsBytes-nil, tt)
pieces-bytes (c ∷ text) bytes =
    let rest = pieces-bytes text (IsBytes-tail c text bytes) in
    elim (c == 32) as (λ b. AreBytes (cond b ([] ∷ slice_split (λ b. b == 32) text) (onto_first c (slice_split (λ b. b == 32) text)))) [
      | true ↦ (IsBytes-nil, rest)
      | false ↦ onto c (slice_split (λ b. b == 32) text) (bytes 0) rest
    ]
  where
    onto : (c : ℕ) (pieces : List (List ℕ)) → c < 256 → AreBytes pieces → AreBytes (onto_first c pieces)
    onto c [] fits bytes = (IsBytes-cons c [] fits IsBytes-nil, tt)
    onto c (piece ∷ pieces) fits bytes = (IsBytes-cons c piece fits bytes.0, bytes.1)

nibble-fits : (c : ℕ) → nibble c < 16
nibble-fits c = grind (arith, nat_tests)

pair-fits : (high low : ℕ) → nibble high * 16 + nibble low < 256
pair-fits high low = let h = nibble-fits high in let l = nibble-fits low in omega (arith, h, l)

pub unshown-bytes : (word : List ℕ) → IsBytes word → IsBytes (unshown word)
unshown-bytes [] bytes = bytes
unshown-bytes (c ∷ []) bytes = bytes
unshown-bytes (c ∷ d ∷ []) bytes = bytes
unshown-bytes (c ∷ d ∷ e ∷ rest) bytes =
    let two : IsBytes (e ∷ rest) = λ i. bytes (suc (suc i)) in
    let pair = unshown-bytes rest (IsBytes-tail e rest two) in
    let one = unshown-bytes (d ∷ e ∷ rest) (IsBytes-tail c (d ∷ e ∷ rest) bytes) in
    elim (c == 37) as (λ b. IsBytes (cond b ((nibble d * 16 + nibble e) ∷ unshown rest) (c ∷ unshown (d ∷ e ∷ rest)))) [
      | true ↦ IsBytes-cons (nibble d * 16 + nibble e) (unshown rest) (pair-fits d e) pair
      | false ↦ IsBytes-cons c (unshown (d ∷ e ∷ rest)) (bytes 0) one
    ]

octets-bytes : (digits : List ℕ) → IsBytes (octets_in digits)
octets-bytes [] = IsBytes-nil
octets-bytes (digit ∷ []) = IsBytes-nil
octets-bytes (high ∷ low ∷ others) = IsBytes-cons (nibble high * 16 + nibble low) (octets_in others) (pair-fits high low) (octets-bytes others)

-- the parts of a step

pub rest-bytes : (words : List (List ℕ)) → AreBytes words → AreBytes (rest_of words)
rest-bytes [] bytes = bytes
rest-bytes (word ∷ words) bytes = bytes.1

key_of-bytes : (name : List ℕ) (key : Key) → IsBytes name → key_of name ≡ Some key → IsBytes key.name
key_of-bytes [] key bytes is = absurd (cc)
key_of-bytes (c ∷ []) key bytes is = absurd (cc)
key_of-bytes (c ∷ d ∷ name) key bytes is = by (role_of c) is
  where
    by : (role : Option Role) → option_map (λ (role : Role). record { role = role; name = name }) role ≡ Some key → IsBytes key.name
    by None is = absurd (cc)
    by (Some role) is = subst (λ (key : Key). IsBytes key.name) (some_is _ key is) (λ i. bytes (suc (suc i)))

pub first_key-bytes : (words : List (List ℕ)) (key : Key) → AreBytes words → first_key words ≡ Some key → IsBytes key.name
first_key-bytes [] key bytes is = absurd (cc)
first_key-bytes (word ∷ words) key bytes is = key_of-bytes (unshown word) key (unshown-bytes word bytes.0) is

-- what stands at the place of a name has that name
place-named : {T : Type 0} (name : List ℕ) (entries : List (Named T)) (place : ℕ) (d : Named T) → place_of name entries ≡ Some place → IsBytes name
    → IsSomeAnd (slice_get entries place) (λ entry. IsBytes entry.name)
place-named name entries place d is bytes =
    let first = position-Some (λ entry. bytes_eq entry.name name) entries place d is in
    let named : (get_or entries place d).name ≡ name = (bytes_eq-Decides (get_or entries place d).name name).0 first.1 in
    subst (λ o. IsSomeAnd o (λ entry. IsBytes entry.name)) (sym (slice_get-get_or entries place d first.0)) (subst IsBytes (sym named) bytes)

pub kind_of-known : (kinds : List (Named (Unit {0}))) (words : List (List ℕ)) (kind : ℕ) → AreBytes words → kind_of kinds words ≡ Some kind
    → IsSomeAnd (slice_get kinds kind) (λ entry. IsBytes entry.name)
kind_of-known kinds [] kind bytes is = absurd (cc)
kind_of-known kinds (word ∷ words) kind bytes is = place-named (unshown word) kinds kind (record { name = []; value = tt }) is (unshown-bytes word bytes.0)

-- the value of a fact fits
with-fits : (a b : Option ℕ) (fact : ℕ × ℕ) → ((n : ℕ) → b ≡ Some n → n < 2 ^ 64) → fact_with a b ≡ Some fact → fact.1 < 2 ^ 64
with-fits (Some number) (Some value) fact fits is = elim (nat_lt number PLACES) as (λ b. cond b (Some (number, value)) None ≡ Some fact → fact.1 < 2 ^ 64) [
  | true ↦ λ e. subst (λ (fact : ℕ × ℕ). fact.1 < 2 ^ 64) (some_is _ fact e) (fits value refl)
  | false ↦ λ e. absurd (cc)
] is
with-fits (Some number) None fact fits is = absurd (cc)
with-fits None value fact fits is = absurd (cc)

between-fits : (parts : List (List ℕ)) (fact : ℕ × ℕ) → fact_between parts ≡ Some fact → fact.1 < 2 ^ 64
between-fits [] fact is = absurd (cc)
between-fits (one ∷ []) fact is = absurd (cc)
between-fits (one ∷ two ∷ []) fact is = with-fits (number_of one) (number_of two) fact (number_of-fits two) is
between-fits (one ∷ two ∷ three ∷ parts) fact is = absurd (cc)

fact_of-fits : (word : List ℕ) (fact : ℕ × ℕ) → fact_of word ≡ Some fact → fact.1 < 2 ^ 64
unfolding fact_of
fact_of-fits word fact is = between-fits (slice_split (λ c. c == 61) word) fact is

record AreFacts (facts : List ℕ) : Type 0 where
  places : length facts ≡ PLACES
  values : All (λ value. value < 2 ^ 64) facts

put_fact-fits : (fact : Option (ℕ × ℕ)) (facts : List ℕ) → ((one : ℕ × ℕ) → fact ≡ Some one → one.1 < 2 ^ 64) → AreFacts facts → AreFacts (put_fact fact facts)
put_fact-fits None facts fits are = are
put_fact-fits (Some fact) facts fits are = record {
  places = length-set facts fact.0 fact.1 ∙ are.places;
  values = All-set (λ value. value < 2 ^ 64) facts fact.0 fact.1 (fits fact refl) are.values;
}

put_all-fits : (words : List (List ℕ)) (facts : List ℕ) → AreFacts facts → AreFacts (put_all words facts)
put_all-fits [] facts are = are
put_all-fits (word ∷ words) facts are = put_all-fits words (put_fact (fact_of word) facts) (put_fact-fits (fact_of word) facts (fact_of-fits word) are)

no_facts : AreFacts (replicate PLACES 0)
no_facts = record { places = refl; values = All-replicate (λ value. value < 2 ^ 64) PLACES 0 (omega arith) }

told_is : (names : Names) (words : List (List ℕ)) (step : Step) → AreBytes words → told_of names.kinds words ≡ Some step → IsStep names step
told_is names words step bytes is =
    by (small words) (first_key (rest_of words)) (kind_of names.kinds (rest_of (rest_of words))) refl refl refl is
  where
    facts : List ℕ
    facts = facts_in (rest_of (rest_of (rest_of words)))

    by : (desk : Option ℕ) (key : Option Key) (kind : Option ℕ) → small words ≡ desk → first_key (rest_of words) ≡ key → kind_of names.kinds (rest_of (rest_of words)) ≡ kind
        → told_with desk key kind (facts_in (rest_of (rest_of (rest_of words)))) ≡ Some step → IsStep names step
    by (Some desk) (Some key) (Some kind) one two three is =
        let are = put_all-fits (rest_of (rest_of (rest_of words))) (replicate PLACES 0) no_facts in
        subst (IsStep names) (some_is _ step is) (record {
          desk_fits = narrow-fits (large words) desk one;
          name = first_key-bytes (rest_of words) key (rest-bytes words bytes) two;
          kind = kind_of-known names.kinds (rest_of (rest_of words)) kind (rest-bytes (rest_of words) (rest-bytes words bytes)) three;
          places = are.places;
          values = are.values;
        })
    by (Some desk) (Some key) None one two three is = absurd (cc)
    by (Some desk) None kind one two three is = absurd (cc)
    by None key kind one two three is = absurd (cc)

came_is : (names : Names) (words : List (List ℕ)) (step : Step) → came_of words ≡ Some step → IsStep names step
came_is names words step is = by (small words) (piece_of (rest_of words)) refl refl is
  where
    piece-bytes : (words : List (List ℕ)) (piece : List ℕ) → piece_of words ≡ Some piece → IsBytes piece
    piece-bytes [] piece is = subst IsBytes (some_is [] piece is) IsBytes-nil
    piece-bytes (word ∷ words) piece is = elim (are_pairs word) as (λ b. cond b (Some (octets_in word)) None ≡ Some piece → IsBytes piece) [
      | true ↦ λ e. subst IsBytes (some_is (octets_in word) piece e) (octets-bytes word)
      | false ↦ λ e. absurd (cc)
    ] (sym (pairs_are word) ∙ is)

    by : (line : Option ℕ) (piece : Option (List ℕ)) → small words ≡ line → piece_of (rest_of words) ≡ piece → came_with line piece ≡ Some step → IsStep names step
    by (Some line) (Some piece) one two is = subst (IsStep names) (some_is _ step is) (narrow-fits (large words) line one, piece-bytes (rest_of words) piece two)
    by (Some line) None one two is = absurd (cc)
    by None piece one two is = absurd (cc)

-- where an entry has a number, the first that has it is there
found-bytes : (test : Named ℕ → Bool) (machines : List (Named ℕ)) (machine : ℕ) (entry : Named ℕ) → All (λ entry. IsBytes entry.name) machines → find test machines ≡ Some entry
    → entry.value ≡ machine → IsSomeAnd (find (λ entry. entry.value == machine) machines) (λ entry. IsBytes entry.name)
found-bytes test [] machine entry octets found value = absurd (cc)
found-bytes test (one ∷ machines) machine entry octets found value =
    elim (one.value == machine) as (λ b. (one.value == machine) ≡ b → IsSomeAnd (cond b (Some one) (find (λ entry. entry.value == machine) machines)) (λ entry. IsBytes entry.name)) [
      | true ↦ λ e. All-head (λ entry. IsBytes entry.name) one machines octets
      | false ↦ λ e. found-bytes test machines machine entry (All-tail (λ entry. IsBytes entry.name) one machines octets) (behind (test one) found e) value
    ] refl
  where
    behind : (b : Bool) → cond b (Some one) (find test machines) ≡ Some entry → (one.value == machine) ≡ false → find test machines ≡ Some entry
    behind true found other = absurd (cc (other, eq-eqb entry.value machine value, ap (λ (entry : Named ℕ). entry.value == machine) (some_is one entry found)))
    behind false found other = found

fired_is : (names : Names) (words : List (List ℕ)) (step : Step) → All (λ entry. IsBytes entry.name) names.machines → fired_of names.machines words ≡ Some step → IsStep names step
fired_is names words step octets is = by (machine_of names.machines words) (large (rest_of words)) refl refl is
  where
    known : (words : List (List ℕ)) (machine : ℕ) → machine_of names.machines words ≡ Some machine → IsSomeAnd (find (λ entry. entry.value == machine) names.machines) (λ entry. IsBytes entry.name)
    known [] machine is = absurd (cc)
    known (word ∷ words) machine is = entered (entry_of (unshown word) names.machines) refl is
      where
        entered : (entry : Option (Named ℕ)) → entry_of (unshown word) names.machines ≡ entry → option_map (λ (entry : Named ℕ). entry.value) entry ≡ Some machine
            → IsSomeAnd (find (λ entry. entry.value == machine) names.machines) (λ entry. IsBytes entry.name)
        entered None at is = absurd (cc)
        entered (Some entry) at is = found-bytes (λ entry. bytes_eq entry.name (unshown word)) names.machines machine entry octets at (some_is entry.value machine is)

    by : (machine generation : Option ℕ) → machine_of names.machines words ≡ machine → large (rest_of words) ≡ generation → fired_with machine generation ≡ Some step → IsStep names step
    by (Some machine) (Some generation) one two is =
        subst (IsStep names) (some_is _ step is) (record { known = known words machine one; generation_fits = large-fits (rest_of words) generation two })
    by (Some machine) None one two is = absurd (cc)
    by None generation one two is = absurd (cc)

source_is : (words : List (List ℕ)) (source : Source) → source_of words ≡ Some source → IsSource source
source_is [] source is = absurd (cc)
source_is (word ∷ words) source is =
    by (bytes_eq word (codes "clock")) (bytes_eq word (codes "line")) (bytes_eq word (codes "shard")) (bytes_eq word (codes "desk")) (small words) (narrow-fits (large words)) is
  where
    by : (clock line shard desk : Bool) (number : Option ℕ) → ((n : ℕ) → number ≡ Some n → n < 2 ^ 32)
        → cond clock (Some Clock) (cond line (option_map Line number) (cond shard (option_map Shard number) (cond desk (option_map Desk number) None))) ≡ Some source → IsSource source
    by true line shard desk number fits is = subst IsSource (some_is Clock source is) tt
    by false true shard desk (Some n) fits is = subst IsSource (some_is (Line n) source is) (fits n refl)
    by false true shard desk None fits is = absurd (cc)
    by false false true desk (Some n) fits is = subst IsSource (some_is (Shard n) source is) (fits n refl)
    by false false true desk None fits is = absurd (cc)
    by false false false true (Some n) fits is = subst IsSource (some_is (Desk n) source is) (fits n refl)
    by false false false true None fits is = absurd (cc)
    by false false false false number fits is = absurd (cc)

-- a step of one small number, or of one source
small_is : (names : Names) (words : List (List ℕ)) (step : Step) (make : ℕ → Step) → ((n : ℕ) → n < 2 ^ 32 → IsStep names (make n)) → option_map make (small words) ≡ Some step → IsStep names step
small_is names words step make fits is = by (small words) refl is
  where
    by : (number : Option ℕ) → small words ≡ number → option_map make number ≡ Some step → IsStep names step
    by None at is = absurd (cc)
    by (Some n) at is = subst (IsStep names) (some_is (make n) step is) (fits n (narrow-fits (large words) n at))

from_source : (names : Names) (words : List (List ℕ)) (step : Step) (make : Source → Step) → ((source : Source) → IsSource source → IsStep names (make source)) → option_map make (source_of words) ≡ Some step
    → IsStep names step
from_source names words step make fits is = by (source_of words) refl is
  where
    by : (source : Option Source) → source_of words ≡ source → option_map make source ≡ Some step → IsStep names step
    by None at is = absurd (cc)
    by (Some source) at is = subst (IsStep names) (some_is (make source) step is) (fits source (source_is words source at))

guess_is : (names : Names) (command : Command) (words : List (List ℕ)) (step : Step) → AreBytes words → All (λ entry. IsBytes entry.name) names.machines
    → guess_of names command words ≡ Some step → IsStep names step
guess_is names Join words step bytes octets is = subst (IsStep names) (some_is _ step is) tt
guess_is names Dialled words step bytes octets is = small_is names words step one.Dialled (λ line fits. fits) is
guess_is names Came words step bytes octets is = came_is names words step is
guess_is names Lost words step bytes octets is = small_is names words step one.Lost (λ line fits. fits) is
guess_is names Told words step bytes octets is = told_is names words step bytes is
guess_is names Fired words step bytes octets is = fired_is names words step octets is
guess_is names Lift words step bytes octets is = from_source names words step one.Lift (λ source fits. fits) is
guess_is names Drop words step bytes octets is = from_source names words step one.Drop (λ source fits. fits) is
guess_is names Work words step bytes octets is = small_is names words step one.Work (λ shard fits. fits) is

-- what a line can be is a step
pub line_is : (names : Names) (line : List ℕ) (step : Step) → IsBytes line → All (λ entry. IsBytes entry.name) names.machines → guess_line names line ≡ Some step → IsStep names step
line_is names line step bytes octets is = by (pieces_in 32 line) (pieces-bytes line bytes) is
  where
    of : (command : Option Command) (words : List (List ℕ)) → AreBytes words → option_and_then (λ command. guess_of names command words) command ≡ Some step → IsStep names step
    of None words bytes is = absurd (cc)
    of (Some command) words bytes is = guess_is names command words step bytes octets is

    by : (words : List (List ℕ)) → AreBytes words → guess_words names words ≡ Some step → IsStep names step
    by [] bytes is = absurd (cc)
    by (word ∷ words) bytes is = of (command_of word) words bytes.1 is
