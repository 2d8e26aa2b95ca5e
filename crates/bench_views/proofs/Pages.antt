-- What the pages of the account book say.
use Rattle.std.proofs.Common.{◌≡◌, ℕ, List, [], ◌∷◌, ◌++◌, Bool, true, false, cond, Option, Some, None, refl, sym, ◌∙◌, ap, arith}
use Rattle.std.specs.Prelude.{◌==◌, ◌%◌, filter, find, option_map}
use Rattle.std.specs.List.{cons_option}
use Rattle.std.specs.Option.{option_and_then}
use Rattle.std.proofs.lemmas.Bool.{false≢true}
use Rattle.std.proofs.lemmas.Bool.Decides.{nat_tests}
use Rattle.std.proofs.lemmas.List.Elements.{filter-append}
use Rattle.std.proofs.lemmas.Option.{same_Some}
use Rattle.acct_book.specs.Alone.{IsOneAccount, SayTheSame, on_account}
use Rattle.acct_book.specs.Book.{Book, Opened, after, booked_of, outcome_of, quote_of, totals_of}
use Rattle.acct_book.proofs.AloneLemmas.{one_account_says_the_same}
use Rattle.acct_totals.specs.Amounts.{account_of}
use Rattle.acct_totals.specs.declared.op.Booked.{Booked}
use Rattle.acct_totals.specs.declared.op.Op.{Op}
use Rattle.acct_totals.specs.declared.op.Outcome.{Outcome}
use Rattle.base_codes.specs.DeedCodes.{coded}
use Rattle.base_codes.specs.declared.deed_code.DeedCode.{DeedCode}
use Rattle.base_codes.specs.declared.deed_code.DeedCode.TheVariants as deeds
use Rattle.charge_session.specs.Deeds.{op_by, op_of}
use Rattle.charge_session.specs.declared.quote.Quotes.{Quotes}
use Rattle.charge_session.specs.declared.quote.Quotes.TheVariants as quotes
use Rattle.charge_session.specs.Quotes.{quoted}
use Rattle.charge_session.specs.declared.want.ServiceUnits.{ServiceUnits}
use Rattle.charge_session.specs.declared.want.ServiceUnits.TheVariants.{One, Several}
use Rattle.charge_session.specs.declared.want.Want.{Want}
use Rattle.tab_law.specs.declared.scene.Deed.{Deed}
use Rattle.tab_step.specs.declared.machine.Event.{Event}
use Rattle.bench_item.specs.declared.entry.Entry.{Entry}
use Rattle.bench_spec.specs.Booked.{book_at, event_with_quote, ops_of, outcomes_for, outcomes_of, quotes_for}
use Rattle.bench_spec.specs.Settings.{Settings}
use Rattle.bench_views.specs.Pages.{AreOn, IsAsked, is_on_page, page_at, page_of}

same_number : (a b : ℕ) → (a == b) ≡ true → a ≡ b
same_number a b h = grind (arith, nat_tests)

itself : (n : ℕ) → (n == n) ≡ true
itself n = grind (arith, nat_tests)

-- the account is on its page
pub on_own : (pages page account : ℕ) → account % pages ≡ page → (n : ℕ) → n ≡ account → is_on_page pages page n ≡ true
on_own pages page account own n same = ap (λ k. k % pages == page) same ∙ ap (λ k. k == page) own ∙ itself page

-- what a filter keeps, where a wider one was before it
filter-wider : {X : Type 0} (wide narrow : X → Bool) (xs : List X) → ((x : X) → narrow x ≡ true → wide x ≡ true)
    → filter narrow (filter wide xs) ≡ filter narrow xs
filter-wider wide narrow [] h = refl
filter-wider {X} wide narrow (x ∷ xs) h = by (filter-wider wide narrow xs h) (wide x) refl (narrow x) refl
  where
    by : filter narrow (filter wide xs) ≡ filter narrow xs → (b : Bool) → wide x ≡ b → (c : Bool) → narrow x ≡ c
        → filter narrow (cond b (x ∷ filter wide xs) (filter wide xs))
        ≡ cond c (x ∷ filter narrow xs) (filter narrow xs)
    by later true is true kept = rw kept (ap (λ ys. x ∷ ys) later)
    by later true is false kept = rw kept later
    by later false is true kept = absurd (false≢true (sym is ∙ h x kept))
    by later false is false kept = later

-- the first that passes, where a wider filter was before
find-wider : {X : Type 0} (wide test : X → Bool) (xs : List X) → ((x : X) → test x ≡ true → wide x ≡ true)
    → find test (filter wide xs) ≡ find test xs
find-wider wide test [] h = refl
find-wider {X} wide test (x ∷ xs) h = by (find-wider wide test xs h) (wide x) refl (test x) refl
  where
    by : find test (filter wide xs) ≡ find test xs → (b : Bool) → wide x ≡ b → (c : Bool) → test x ≡ c
        → find test (cond b (x ∷ filter wide xs) (filter wide xs)) ≡ cond c (Some x) (find test xs)
    by later true is true passes = rw passes refl
    by later true is false passes = rw passes later
    by later false is true passes = absurd (false≢true (sym is ∙ h x passes))
    by later false is false passes = later

-- An account is one and the same in the book and on its page,
pub page_of-one : (pages page account : ℕ) (book : Book) → account % pages ≡ page
    → IsOneAccount account (page_of pages page book) book
page_of-one pages page account book own = record {
  opened =
      ap (option_map (λ (o : Opened). o.given))
      (find-wider (λ (o : Opened). is_on_page pages page o.id) (λ (o : Opened). account == o.id) book.accounts
      (λ o is. on_own pages page account own o.id (sym (same_number account o.id is))));
  journal =
      filter-wider (λ (b : Booked). is_on_page pages page (account_of b.op))
      (λ (b : Booked). account_of b.op == account) book.journal
      (λ b is. on_own pages page account own (account_of b.op) (same_number (account_of b.op) account is));
}

-- so both say the same of it:
pub page_of-says : (pages page account : ℕ) (book : Book) → account % pages ≡ page
    → SayTheSame account (page_of pages page book) book
page_of-says pages page account book own =
    one_account_says_the_same account (page_of pages page book) book (page_of-one pages page account book own)

-- its totals,
pub totals_of-page : (settings : Settings) (log : List Entry) (account : ℕ)
    → totals_of (page_at settings (account % settings.pages) log) account ≡ totals_of (book_at settings log) account
totals_of-page settings log account =
    (page_of-says settings.pages (account % settings.pages) account (book_at settings log) refl).totals

-- the quote of one service,
pub quote_of-page : (settings : Settings) (log : List Entry) (account session group used want : ℕ)
    → quote_of (page_at settings (account % settings.pages) log) account session group used want
    ≡ quote_of (book_at settings log) account session group used want
quote_of-page settings log account session group used want =
    (page_of-says settings.pages (account % settings.pages) account (book_at settings log) refl).quote session group
    used want

-- the quotes of what is asked,
quotes_by : (b c : Book) (want : Want) (asked : ServiceUnits) → SayTheSame want.account b c
    → quotes_for b (record { account = want.account; session = want.session; asked = asked })
    ≡ quotes_for c (record { account = want.account; session = want.session; asked = asked })
quotes_by b c want (One slot) same = ap quotes.One (same.quote want.session slot.group slot.used slot.want)
quotes_by b c want (Several slots) same = ap quotes.Several (same.quotes want.session slots)

quotes_for-same : (b c : Book) (want : Want) → SayTheSame want.account b c → quotes_for b want ≡ quotes_for c want
quotes_for-same b c want same = quotes_by b c want want.asked same

pub quotes_for-page : (settings : Settings) (page : ℕ) (log : List Entry) (want : Want)
    → want.account % settings.pages ≡ page
    → quotes_for (page_at settings page log) want ≡ quotes_for (book_at settings log) want
quotes_for-page settings page log want own =
    quotes_for-same (page_at settings page log) (book_at settings log) want
    (page_of-says settings.pages page want.account (book_at settings log) own)

-- and so the event with the quote.
pub event_with_quote-page : (settings : Settings) (page : ℕ) (log : List Entry) (want : Option Want) (e : Event)
    → IsAsked settings.pages page want
    → event_with_quote (page_at settings page log) want e ≡ event_with_quote (book_at settings log) want e
event_with_quote-page settings page log None e own = refl
event_with_quote-page settings page log (Some want) e own =
    ap (λ q. event_by q) (quotes_for-page settings page log want own)
  where
    event_by : Quotes → Event
    event_by q = record { kind = e.kind; facts = quoted q e.facts }

-- an account stays one and the same with one more operation on it
after-one : (account : ℕ) (b c : Book) (op : Op) → account_of op ≡ account → IsOneAccount account b c
    → IsOneAccount account (after b op) (after c op)
after-one account b c op on same = record {
  opened = same.opened;
  journal =
      filter-append (λ (x : Booked). account_of x.op == account) b.journal (booked_of b op ∷ [])
      ∙ ap (λ xs. xs ++ on_account account (booked_of b op ∷ [])) same.journal
      ∙ ap (λ outcome. on_account account c.journal ++ on_account account (with_outcome outcome ∷ []))
      ((one_account_says_the_same account b c same).outcome op on)
      ∙ sym (filter-append (λ (x : Booked). account_of x.op == account) c.journal (booked_of c op ∷ []));
}
  where
    with_outcome : Outcome → Booked
    with_outcome outcome = record { op = op; outcome = outcome }

outcomes_of-same : (account : ℕ) (ops : List Op) (b c : Book) → AreOn account ops → IsOneAccount account b c
    → outcomes_of b ops ≡ outcomes_of c ops
outcomes_of-same account [] b c on same = refl
outcomes_of-same account (op ∷ ops) b c on same =
    ap (λ outcome. outcome ∷ outcomes_of (after b op) ops)
    ((one_account_says_the_same account b c same).outcome op on.0)
    ∙ ap (λ outcomes. outcome_of c op ∷ outcomes)
    (outcomes_of-same account ops (after b op) (after c op) on.1 (after-one account b c op on.0 same))

-- A page gives operations on its account the outcomes that the book gives.
pub outcomes_of-page : (settings : Settings) (page : ℕ) (log : List Entry) (account : ℕ) (ops : List Op)
    → account % settings.pages ≡ page
    → AreOn account ops → outcomes_of (page_at settings page log) ops ≡ outcomes_of (book_at settings log) ops
outcomes_of-page settings page log account ops own on =
    outcomes_of-same account ops (page_at settings page log) (book_at settings log) on
    (page_of-one settings.pages page account (book_at settings log) own)

-- what deeds ask is on the account that is asked
op_by-on : (want : Want) (a : List ℕ) (code : DeedCode) (op : Op) → op_by want a code ≡ Some op
    → account_of op ≡ want.account
op_by-on want a deeds.Reserve op is = ap account_of (sym (same_Some _ _ is))
op_by-on want a deeds.Debit op is = ap account_of (sym (same_Some _ _ is))
op_by-on want a deeds.Release op is = ap account_of (sym (same_Some _ _ is))
op_by-on want a deeds.Charge op is = ap account_of (sym (same_Some _ _ is))
op_by-on want a deeds.Refund op is = ap account_of (sym (same_Some _ _ is))
op_by-on want a code op is = absurd cc

op_of-on : (want : Want) (deed : Deed) (op : Op) → op_of want deed ≡ Some op → account_of op ≡ want.account
op_of-on want deed op is = by (coded deed.code) is
  where
    by : (code : Option DeedCode) → option_and_then (op_by want deed.a) code ≡ Some op → account_of op ≡ want.account
    by None none = absurd cc
    by (Some code) some = op_by-on want deed.a code op some

pub ops_of-on : (want : Want) (deeds : List Deed) → AreOn want.account (ops_of (Some want) deeds)
ops_of-on want [] = tt
ops_of-on want (deed ∷ deeds) = by (ops_of-on want deeds) (op_of want deed) refl
  where
    by : AreOn want.account (ops_of (Some want) deeds) → (op : Option Op) → op_of want deed ≡ op
        → AreOn want.account (cons_option op (ops_of (Some want) deeds))
    by rest None is = rest
    by rest (Some op) is = (op_of-on want deed op is, rest)

-- So it does for the deeds of a move, where it is asked.
pub outcomes_for-page : (settings : Settings) (page : ℕ) (log : List Entry) (want : Option Want) (deeds : List Deed)
    → IsAsked settings.pages page want
    → outcomes_for (page_at settings page log) want deeds ≡ outcomes_for (book_at settings log) want deeds
outcomes_for-page settings page log None deeds own = refl
outcomes_for-page settings page log (Some want) deeds own =
    outcomes_of-page settings page log want.account (ops_of (Some want) deeds) own (ops_of-on want deeds)
