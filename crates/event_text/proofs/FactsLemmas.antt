-- What the facts of words are, while they are read one after another.
use Rattle.std.proofs.Common.{◌≡◌, ◌<◌, ℕ, zero, suc, ◌==◌, ◌&&◌, ◌||◌, not, Bool, true, false, if◌then◌else◌, List, [], ◌∷◌, map, length, get_or, set, replicate, Option, Some, None, is_some, refl, sym, ap, ◌∙◌, get_or-set_other, get_or-set_same}
use Rattle.std.specs.List.{list_all, list_any, range_with_len}
use Rattle.std.proofs.lemmas.Bool.{both_ways, cond-false, eqb-false, eqb-true}
use Rattle.std.proofs.lemmas.List.FromFn.{fill_by_all}
use Rattle.tab_law.specs.declared.limits.TheConstants.{PLACES}
use Rattle.text_parts.specs.Words.{Word}
use Rattle.event_text.specs.Events.{are_different, are_facts, facts_by, facts_in, labelled, value_of}

-- the number of a fact wasn't given before
abbrev is_new : List Bool → ℕ × ℕ → Bool
is_new given fact = not (get_or given fact.0 false)

-- the value of a number: the one that was given before, or else the one that is still written
abbrev value_with : List ℕ → List Bool → List (ℕ × ℕ) → ℕ → ℕ
value_with facts given written number = if get_or given number false then get_or facts number 0 else value_of written number

-- these words are facts, with numbers that weren't given before
abbrev are_more : Option ℕ → List Bool → List Word → Bool
are_more letter given left = are_facts letter left && list_all (is_new given) (facts_in letter left)

-- what the facts so far and the words that are left make
abbrev pub goes_on : Option ℕ → List ℕ → List Bool → List Word → Option (List ℕ)
goes_on letter facts given left =
    if are_more letter given left then Some (map (value_with facts given (facts_in letter left)) (range_with_len 0 PLACES)) else None

-- what isn't given is 0
abbrev pub AreZeroes : List ℕ → List Bool → Type 0
AreZeroes facts given = (number : ℕ) → get_or given number false ≡ false → get_or facts number 0 ≡ 0

-- equal tests and equal values give equal facts
goes_on-same : (test other : Bool) (f g : ℕ → ℕ) (numbers : List ℕ) → test ≡ other → ((number : ℕ) → f number ≡ g number)
    → (if test then Some (map f numbers) else None) ≡ (if other then Some (map g numbers) else None)
goes_on-same test other f g numbers tests values = λ i. if tests i then Some (map (λ number. values number i) numbers) else None

-- where nothing is given, each fact is new
is_new-all : (given : List Bool) (written : List (ℕ × ℕ)) → ((number : ℕ) → get_or given number false ≡ false) → list_all (is_new given) written ≡ true
is_new-all given [] none = refl
is_new-all given (fact ∷ others) none = rw (none fact.0) (is_new-all given others none)

and_true : (a b : Bool) → b ≡ true → a ≡ (a && b)
and_true true b is = sym is
and_true false b is = refl

get_or-same : {A : Type 0} (len number : ℕ) (a : A) → get_or (replicate len a) number a ≡ a
get_or-same zero number a = refl
get_or-same (suc len) zero a = refl
get_or-same (suc len) (suc number) a = get_or-same len number a

-- before the first word nothing is given
pub facts_by-start : (letter : Option ℕ) (all : List Word) → facts_by letter all ≡ goes_on letter (replicate PLACES 0) (replicate PLACES false) all
unfolding facts_by
facts_by-start letter all =
    let none : (number : ℕ) → get_or (replicate PLACES false) number false ≡ false = λ number. get_or-same PLACES number false in
    goes_on-same (are_facts letter all) (are_more letter (replicate PLACES false) all) (value_of (facts_in letter all)) (value_with (replicate PLACES 0) (replicate PLACES false) (facts_in letter all))
    (range_with_len 0 PLACES)
    (and_true (are_facts letter all) _ (is_new-all (replicate PLACES false) (facts_in letter all) none))
    (λ number. sym (cond-false (get_or (replicate PLACES false) number false) _ (value_of (facts_in letter all) number) (none number)))

pub AreZeroes-start : AreZeroes (replicate PLACES 0) (replicate PLACES false)
AreZeroes-start number none = get_or-same PLACES number 0

-- a value that is 0 where it isn't given
value-kept : (given : Bool) (value : ℕ) → (given ≡ false → value ≡ 0) → value ≡ (if given then value else 0)
value-kept true value zeroes = refl
value-kept false value zeroes = zeroes refl

-- no word is left
pub goes_on-end : (letter : Option ℕ) (facts : List ℕ) (given : List Bool) (left : List Word) → left ≡ [] → length facts ≡ PLACES → AreZeroes facts given
    → Some facts ≡ goes_on letter facts given left
goes_on-end letter facts given left joined all zeroes =
    let same : facts ≡ map (value_with facts given []) (range_with_len 0 PLACES) =
    fill_by_all (value_with facts given []) facts PLACES 0 all (λ number below. value-kept (get_or given number false) (get_or facts number 0) (zeroes number)) in
    rw joined (ap Some same)

-- a fact is new behind another one if its number is another one and wasn't given before
is_new-set : (given : List Bool) (number other value : ℕ) (same : Bool) → number < length given → (other == number) ≡ same
    → is_new (set given number true) (other, value) ≡ (not same && is_new given (other, value))
is_new-set given number other value true below is =
    let e : other ≡ number = eqb-true other number is in
    rw (e, get_or-set_same given number true false below) refl
is_new-set given number other value false below is =
    rw (get_or-set_other given number other true false (eqb-false other number is)) refl

-- two tests of one fact and two tests of the others, in another order
regroup : (same others new rest : Bool) → ((not same && new) && (not others && rest)) ≡ (not (same || others) && (new && rest))
regroup true others new rest = refl
regroup false true true rest = refl
regroup false true false rest = refl
regroup false false new rest = refl

-- facts are new behind another one if none has its number and they were new before
is_new-behind : (given : List Bool) (number : ℕ) (written : List (ℕ × ℕ)) → number < length given
    → list_all (is_new (set given number true)) written ≡ (not (list_any (λ other. other == number) (map (λ fact. fact.0) written)) && list_all (is_new given) written)
is_new-behind given number [] below = refl
is_new-behind given number (fact ∷ others) below =
    rw (is_new-set given number fact.0 fact.1 (fact.0 == number) below refl, is_new-behind given number others below)
    (regroup (fact.0 == number) _ (is_new given fact) _)

-- the test that a number is another one stands with those of the words or with those of what is new
move_test : (facts other different new : Bool) → ((facts && (other && different)) && new) ≡ ((facts && different) && (other && new))
move_test true true different new = refl
move_test true false true new = refl
move_test true false false new = refl
move_test false other different new = refl

-- the values stay where the first fact that is written is set
value_with-set : (facts : List ℕ) (given : List Bool) (others : List (ℕ × ℕ)) (number value asked : ℕ) (same : Bool)
    → number < length facts → number < length given → get_or given number false ≡ false → (number == asked) ≡ same
    → value_with facts given ((number, value) ∷ others) asked ≡ value_with (set facts number value) (set given number true) others asked
value_with-set facts given others number value asked true in_facts in_given new is =
    let e : asked ≡ number = sym (eqb-true number asked is) in
    rw (is, e, new, get_or-set_same given number true false in_given) (sym (get_or-set_same facts number value 0 in_facts))
value_with-set facts given others number value asked false in_facts in_given new is =
    let other : asked ≡ number → ⊥ = λ e. eqb-false number asked is (sym e) in
    rw (is, get_or-set_other given number asked true false other, get_or-set_other facts number asked value 0 other) refl

-- a fact with a number that wasn't given before
pub goes_on-more : (letter : Option ℕ) (facts : List ℕ) (given : List Bool) (left rest : List Word) (word : Word) (number value : ℕ) → left ≡ word ∷ rest → Some (number, value) ≡ labelled letter word.octets
    → number < length facts → number < length given → get_or given number false ≡ false
    → goes_on letter facts given left ≡ goes_on letter (set facts number value) (set given number true) rest
goes_on-more letter facts given left rest word number value joined is in_facts in_given new =
    let tests : are_more letter given left ≡ are_more letter (set given number true) rest =
    rw (joined, ← is, new, is_new-behind given number (facts_in letter rest) in_given)
    (move_test (list_all (λ word. is_some (labelled letter word.octets)) rest) _ (are_different (map (λ fact. fact.0) (facts_in letter rest))) _) in
    let values : (asked : ℕ) → value_with facts given (facts_in letter left) asked ≡ value_with (set facts number value) (set given number true) (facts_in letter rest) asked =
    λ asked. rw (joined, ← is) (value_with-set facts given (facts_in letter rest) number value asked (number == asked) in_facts in_given new refl) in
    goes_on-same _ _ _ _ (range_with_len 0 PLACES) tests values

zeroes-set : (facts : List ℕ) (given : List Bool) (number value asked : ℕ) (same : Bool) → number < length given → AreZeroes facts given → (asked == number) ≡ same
    → get_or (set given number true) asked false ≡ false → get_or (set facts number value) asked 0 ≡ 0
zeroes-set facts given number value asked true below zeroes is none =
    let e : asked ≡ number = eqb-true asked number is in
    let yes : get_or (set given number true) asked false ≡ true = rw e (get_or-set_same given number true false below) in
    absurd (both_ways _ none yes)
zeroes-set facts given number value asked false below zeroes is none =
    let other : asked ≡ number → ⊥ = eqb-false asked number is in
    get_or-set_other facts number asked value 0 other ∙ zeroes asked (sym (get_or-set_other given number asked true false other) ∙ none)

-- what still isn't given is still 0
pub AreZeroes-more : (facts : List ℕ) (given : List Bool) (number value : ℕ) → number < length given → AreZeroes facts given
    → AreZeroes (set facts number value) (set given number true)
AreZeroes-more facts given number value below zeroes = λ asked none. zeroes-set facts given number value asked (asked == number) below zeroes refl none
