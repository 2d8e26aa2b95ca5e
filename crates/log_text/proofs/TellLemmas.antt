-- What a line can tell is an item, or a deed, as there may be one.
use Rattle.std.proofs.Common.{◌≡◌, ◌<◌, ℕ, ◌+◌, ◌^◌, true, false, cond, List, [], ◌∷◌, length, lit<, refl, ◌∙◌, subst, Option, Some, None, replicate}
use Rattle.std.specs.Prelude.{All, codes, nat_lt, option_map, slice_set}
use Rattle.std.specs.List.{position}
use Rattle.std.specs.Str.{bytes_eq}
use Rattle.std.proofs.lemmas.Bool.{ltb-true}
use Rattle.std.proofs.lemmas.List.Elements.{All-replicate, All-set}
use Rattle.std.proofs.Math.ListN.{length-set}
use Rattle.acct_totals.specs.declared.op.Outcome.{Outcome}
use Rattle.acct_totals.specs.declared.op.Outcome.TheVariants as outcome
use Rattle.base_codes.specs.DeedCodes as coded
use Rattle.base_codes.specs.declared.deed_code.DeedCode.{DeedCode}
use Rattle.base_codes.specs.declared.deed_code.DeedCode.TheVariants.{Unlisted, ToPeer, ToSession, Close, Dial, Undial, Arm, Disarm, SndCer, SndCea, SndDwa, SndDpr, SndDpa, SndMsg, Elect, Reserve, Debit, Release, Charge, Refund, Service}
use Rattle.base_text.specs.Numbers.{number_of}
use Rattle.hex.specs.Hex.{IsBytes}
use Rattle.tab_law.specs.declared.limits.TheConstants.{PLACES}
use Rattle.text_parts.specs.Pieces.{pieces_in}
use Rattle.bench_item.specs.declared.key.Key.{Key}
use Rattle.bench_item.specs.declared.key.Role.{Role}
use Rattle.step_text.specs.Guess.{first_key, kind_of, large, rest_of}
use Rattle.step_text.proofs.StepLemmas.{AreBytes, first_key-bytes, kind_of-known, large-fits, number_of-fits, pieces-bytes, rest-bytes}
use Rattle.log_text.specs.Books.{Named}
use Rattle.log_text.specs.DeedLines.{IsDone, IsOutcome, args_of, behind_four, behind_stop, code_of, code_with, deed_in, deed_with, done_with, guess_deed, named_code, outcome_of, put_args, put_with, stop_of}
use Rattle.log_text.specs.ItemLines.{IsItem, IsRow, IsWho, behind_two, below, between, ending_of, guess_item, items_in, place_or, row_of, state_of, told_of, who_of, who_with}
use Rattle.log_text.specs.declared.deed_line.DeedLine.{DeedLine}
use Rattle.log_text.specs.declared.item.Who.{Who}
use Rattle.log_text.specs.declared.item.ItemLine.{ItemLine}
use Rattle.log_text.specs.declared.item.ItemLine.TheVariants.{TooBusy, Stale, Moved}

some_is : {X : Type 0} (a b : X) → Some a ≡ Some b → a ≡ b
some_is a b e = cc

below-fits : (limit : ℕ) (o : Option ℕ) (n : ℕ) → below limit o ≡ Some n → n < limit
below-fits limit None n is = absurd (cc)
below-fits limit (Some m) n is = elim (nat_lt m limit) as (λ b. nat_lt m limit ≡ b → cond b (Some m) None ≡ Some n → n < limit) [
  | true ↦ λ e h. subst (λ (k : ℕ). k < limit) (some_is m n h) (ltb-true m limit e)
  | false ↦ λ e h. absurd (cc)
] refl is

-- an item

state-fits : (names : Named) (role : Role) (words : List (List ℕ)) (state : ℕ) → state_of names role words ≡ Some state → state < 256
state-fits names role [] state is = absurd (cc)
state-fits names role (word ∷ words) state is = below-fits 256 (place_or (position (λ name. bytes_eq name word) (names.states role)) (number_of word)) state is

row-fits : (words : List (List ℕ)) (row : Option ℕ) → row_of words ≡ Some row → IsRow row
row-fits [] row is = absurd (cc)
row-fits (word ∷ words) row is = elim (bytes_eq word (codes "-")) as (λ b. cond b (Some None) (option_map Some (below (2 ^ 16) (number_of word))) ≡ Some row → IsRow row) [
  | true ↦ λ e. subst IsRow (some_is None row e) tt
  | false ↦ λ e. by (below (2 ^ 16) (number_of word)) refl e
] is
  where
    by : (n : Option ℕ) → below (2 ^ 16) (number_of word) ≡ n → option_map Some n ≡ Some row → IsRow row
    by None at e = absurd (cc)
    by (Some n) at e = subst IsRow (some_is (Some n) row e) (below-fits (2 ^ 16) (number_of word) n at)

ending_is : (names : Named) (who : Who) (before after : ℕ) (words : List (List ℕ)) (item : ItemLine) → IsWho names who → before < 256 → after < 256
    → ending_of who before after words ≡ Some item → IsItem names item
ending_is names who before after [] item whose one two is = absurd (cc)
ending_is names who before after (word ∷ words) item whose one two is =
    elim (bytes_eq word (codes "stale")) as (λ b. cond b (Some (Stale who before)) (option_map (Moved who before after) (row_of words)) ≡ Some item → IsItem names item) [
      | true ↦ λ e. subst (IsItem names) (some_is (Stale who before) item e) (whose, one)
      | false ↦ λ e. by (row_of words) refl e
    ] is
  where
    by : (row : Option (Option ℕ)) → row_of words ≡ row → option_map (Moved who before after) row ≡ Some item → IsItem names item
    by None at e = absurd (cc)
    by (Some row) at e = subst (IsItem names) (some_is (Moved who before after row) item e) (whose, one, two, row-fits words row at)

who_is : (names : Named) (words : List (List ℕ)) (who : Who) → AreBytes words → who_of names words ≡ Some who → IsWho names who
who_is names words who bytes is = by (first_key words) (kind_of names.names.kinds (rest_of words)) refl refl is
  where
    by : (key : Option Key) (kind : Option ℕ) → first_key words ≡ key → kind_of names.names.kinds (rest_of words) ≡ kind → who_with key kind ≡ Some who → IsWho names who
    by (Some key) (Some kind) one two is = subst (IsWho names) (some_is _ who is) (record {
      name = first_key-bytes words key bytes one;
      kind = kind_of-known names.names.kinds (rest_of words) kind (rest-bytes words bytes) two;
    })
    by (Some key) None one two is = absurd (cc)
    by None kind one two is = absurd (cc)

items_are : (names : Named) (words : List (List ℕ)) (item : ItemLine) → AreBytes words → items_in names words ≡ Some item → IsItem names item
items_are names words item bytes is = by (who_of names words) refl is
  where
    left : List (List ℕ)
    left = rest_of (rest_of words)

    states : (who : Who) → IsWho names who → (before after : Option ℕ) → state_of names who.key.role (rest_of (rest_of words)) ≡ before
        → state_of names who.key.role (rest_of (rest_of (rest_of words))) ≡ after → between who before after (rest_of (rest_of (rest_of (rest_of words)))) ≡ Some item → IsItem names item
    states who whose (Some before) (Some after) one two is =
        ending_is names who before after (rest_of (rest_of (rest_of (rest_of words)))) item whose
        (state-fits names who.key.role (rest_of (rest_of words)) before one) (state-fits names who.key.role (rest_of (rest_of (rest_of words))) after two) is
    states who whose (Some before) None one two is = absurd (cc)
    states who whose None after one two is = absurd (cc)

    by : (who : Option Who) → who_of names words ≡ who → told_of names who (rest_of (rest_of words)) ≡ Some item → IsItem names item
    by None at is = absurd (cc)
    by (Some who) at is = states who (who_is names words who bytes at) (state_of names who.key.role (rest_of (rest_of words))) (state_of names who.key.role (rest_of (rest_of (rest_of words)))) refl refl is

pub item_is : (names : Named) (line : List ℕ) (item : ItemLine) → IsBytes line → guess_item names line ≡ Some item → IsItem names item
item_is names line item bytes is =
    elim (bytes_eq line (codes "  busy")) as (λ b. cond b (Some TooBusy) (behind_two names (pieces_in 32 line)) ≡ Some item → IsItem names item) [
      | true ↦ λ e. subst (IsItem names) (some_is TooBusy item e) tt
      | false ↦ λ e. by (pieces_in 32 line) (pieces-bytes line bytes) e
    ] is
  where
    by : (words : List (List ℕ)) → AreBytes words → behind_two names words ≡ Some item → IsItem names item
    by [] bytes e = absurd (cc)
    by (one ∷ []) bytes e = absurd (cc)
    by (one ∷ two ∷ words) bytes e = items_are names words item (bytes.1.1) e

-- a deed

number-fits : (code : DeedCode) → coded.number_of code < 2 ^ 16
number-fits Unlisted = lit< tt
number-fits ToPeer = lit< tt
number-fits ToSession = lit< tt
number-fits Close = lit< tt
number-fits Dial = lit< tt
number-fits Undial = lit< tt
number-fits Arm = lit< tt
number-fits Disarm = lit< tt
number-fits SndCer = lit< tt
number-fits SndCea = lit< tt
number-fits SndDwa = lit< tt
number-fits SndDpr = lit< tt
number-fits SndDpa = lit< tt
number-fits SndMsg = lit< tt
number-fits Elect = lit< tt
number-fits Reserve = lit< tt
number-fits Debit = lit< tt
number-fits Release = lit< tt
number-fits Charge = lit< tt
number-fits Refund = lit< tt
number-fits Service = lit< tt

code-fits : (word : List ℕ) (code : ℕ) → code_of word ≡ Some code → code < 2 ^ 16
code-fits word code is = by (number_of word) is
  where
    named : (found : Option DeedCode) → option_map coded.number_of found ≡ Some code → code < 2 ^ 16
    named None is = absurd (cc)
    named (Some found) is = subst (λ (n : ℕ). n < 2 ^ 16) (some_is (coded.number_of found) code is) (number-fits found)

    by : (number : Option ℕ) → code_with word number ≡ Some code → code < 2 ^ 16
    by (Some number) is = below-fits (2 ^ 16) (Some number) code is
    by None is = named (named_code word) is

record AreArgs (a : List ℕ) : Type 0 where
  places : length a ≡ PLACES
  values : All (λ value. value < 2 ^ 64) a

set-fits : (a : List ℕ) (n value : ℕ) → value < 2 ^ 64 → AreArgs a → AreArgs (slice_set a n value)
set-fits a n value fits are = record {
  places = length-set a n value ∙ are.places;
  values = All-set (λ value. value < 2 ^ 64) a n value fits are.values;
}

put_with-fit : (goes_on : List ℕ → ℕ → List ℕ) (word a : List ℕ) (n : ℕ) (number : Option ℕ) → number_of word ≡ number
    → ((a : List ℕ) (n : ℕ) → AreArgs a → AreArgs (goes_on a n)) → AreArgs a → AreArgs (put_with goes_on n a number)
put_with-fit goes_on word a n None at rest are = are
put_with-fit goes_on word a n (Some value) at rest are =
    elim (nat_lt n PLACES) as (λ b. AreArgs (cond b (goes_on (slice_set a n value) (n + 1)) (goes_on a n))) [
      | true ↦ rest (slice_set a n value) (n + 1) (set-fits a n value (number_of-fits word value at) are)
      | false ↦ rest a n are
    ]

put_args-fit : (words : List (List ℕ)) (a : List ℕ) (n : ℕ) → AreArgs a → AreArgs (put_args words a n)
put_args-fit [] a n are = are
put_args-fit (word ∷ words) a n are = put_with-fit (put_args words) word a n (number_of word) refl (λ a n are. put_args-fit words a n are) are

args-fit : (words : List (List ℕ)) → AreArgs (args_of words)
args-fit words = put_args-fit words (replicate PLACES 0) 0 (record { places = refl; values = All-replicate (λ value. value < 2 ^ 64) PLACES 0 (lit< tt) })

outcome-fits : (stop : Option (List ℕ)) (words : List (List ℕ)) (made : Outcome) → outcome_of stop words ≡ Some made → IsOutcome made
outcome-fits None words made is = subst IsOutcome (some_is outcome.Refused made is) tt
outcome-fits (Some stop) words made is =
    elim (bytes_eq stop (codes "=")) as (λ b. cond b (done_with (large words) (large (rest_of words))) (Some outcome.Refused) ≡ Some made → IsOutcome made) [
      | true ↦ λ e. by (large words) (large (rest_of words)) refl refl e
      | false ↦ λ e. subst IsOutcome (some_is outcome.Refused made e) tt
    ] is
  where
    by : (amount unpaid : Option ℕ) → large words ≡ amount → large (rest_of words) ≡ unpaid → done_with amount unpaid ≡ Some made → IsOutcome made
    by (Some amount) (Some unpaid) one two e = subst IsOutcome (some_is (outcome.Done amount unpaid) made e) (large-fits words amount one, large-fits (rest_of words) unpaid two)
    by (Some amount) None one two e = absurd (cc)
    by None unpaid one two e = absurd (cc)

deed_in-is : (words : List (List ℕ)) (deed : DeedLine) → deed_in words ≡ Some deed → IsDone deed
deed_in-is [] deed is = absurd (cc)
deed_in-is (word ∷ words) deed is = by (code_of word) refl is
  where
    made : (code : ℕ) → code < 2 ^ 16 → (outcome : Option Outcome) → outcome_of (stop_of words) (behind_stop words) ≡ outcome
        → option_map (λ outcome. record { deed = record { code = code; a = args_of words }; outcome = outcome }) outcome ≡ Some deed → IsDone deed
    made code fits None at is = absurd (cc)
    made code fits (Some outcome) at is =
        let are = args-fit words in
        subst IsDone (some_is _ deed is) (record { code = fits; places = are.places; values = are.values; outcome = outcome-fits (stop_of words) (behind_stop words) outcome at })

    by : (code : Option ℕ) → code_of word ≡ code → deed_with code words ≡ Some deed → IsDone deed
    by None at is = absurd (cc)
    by (Some code) at is = made code (code-fits word code at) (outcome_of (stop_of words) (behind_stop words)) refl is

pub deed_is : (line : List ℕ) (deed : DeedLine) → guess_deed line ≡ Some deed → IsDone deed
deed_is line deed is = by (pieces_in 32 line) is
  where
    by : (words : List (List ℕ)) → behind_four words ≡ Some deed → IsDone deed
    by [] is = absurd (cc)
    by (a ∷ []) is = absurd (cc)
    by (a ∷ b ∷ []) is = absurd (cc)
    by (a ∷ b ∷ c ∷ []) is = absurd (cc)
    by (a ∷ b ∷ c ∷ d ∷ words) is = deed_in-is words deed is
