-- The pages of the account book with one more entry, and before their last operations.
use Rattle.std.proofs.Common.{◌≡◌, ℕ, List, [], ◌∷◌, ◌++◌, Bool, true, false, cond, Option, Some, None, refl, sym, ◌∙◌, ap, append_assoc, length-append, arith}
use Rattle.std.proofs.Math.Seq.{take-append_seam}
use Rattle.std.proofs.lemmas.List.{length-take}
use Rattle.std.specs.Prelude.{◌==◌, ◌%◌, ◌-◌, ◌+◌, length, take, zero, suc, filter, fold, if◌then◌else◌}
use Rattle.std.proofs.lemmas.Bool.Decides.{nat_tests}
use Rattle.std.proofs.lemmas.List.{append-nil}
use Rattle.std.proofs.lemmas.List.Elements.{filter-append}
use Rattle.acct_book.specs.Book.{Book, Opened, after, booked_of, opened, taken_back}
use Rattle.acct_totals.specs.Amounts.{account_of}
use Rattle.acct_totals.specs.declared.op.Booked.{Booked}
use Rattle.acct_totals.specs.declared.op.Op.{Op}
use Rattle.acct_totals.specs.declared.op.Outcome.{Outcome}
use Rattle.charge_session.specs.declared.want.Want.{Want}
use Rattle.tab_law.specs.declared.scene.Deed.{Deed}
use Rattle.bench_item.specs.declared.entry.Entry.{Entry}
use Rattle.bench_item.specs.declared.entry.Handled.TheVariants.{TooBusy, Stale, Move}
use Rattle.bench_item.specs.declared.entry.Moved.{Moved}
use Rattle.bench_item.specs.declared.item.Item.{Item}
use Rattle.bench_item.specs.declared.item.Item.TheVariants.{ToMachine}
use Rattle.bench_item.specs.declared.item.MachineItem.{MachineItem}
use Rattle.bench_item.specs.declared.step.Step.{Step}
use Rattle.bench_spec.specs.Booked.{book_at, booked, booked_by, booked_in, ops_of, outcomes_for, outcomes_of, want_of}
use Rattle.bench_spec.specs.Settings.{Settings}
use Rattle.bench_spec.proofs.BookLemmas.{booked-snoc, entry_of}
use Rattle.bench_views.specs.Pages.{AreOn, IsAsked, IsNotAsked, book_with, is_on_page, on_page, page_at, page_of, taken_back_by, with_outcomes}
use Rattle.bench_views.proofs.Pages.{on_own, ops_of-on, outcomes_of-page}

differs : (a b : ℕ) → (a ≡ b → ⊥) → (a == b) ≡ false
differs a b other = grind (arith, nat_tests, other)

abbrev record_of : Op → Outcome → Booked
record_of op outcome = record { op = op; outcome = outcome }

-- a book with more operations, each with the outcome that the book allows
pub fold-after : (book : Book) (ops : List Op)
    → fold after book ops ≡ book_with book.accounts (book.journal ++ with_outcomes ops (outcomes_of book ops))
fold-after book [] = ap (book_with book.accounts) (sym (append-nil book.journal))
fold-after book (op ∷ ops) =
    fold-after (after book op) ops
    ∙ ap (book_with book.accounts)
    (append_assoc book.journal (booked_of book op ∷ []) (with_outcomes ops (outcomes_of (after book op) ops)))

-- what is booked on an account is on its page whole, and on no other
filter-all : (pages page account : ℕ) (ops : List Op) (outcomes : List Outcome) → account % pages ≡ page
    → AreOn account ops
    → on_page pages page (with_outcomes ops outcomes) ≡ with_outcomes ops outcomes
filter-all pages page account [] outcomes own on = refl
filter-all pages page account (op ∷ ops) [] own on = refl
filter-all pages page account (op ∷ ops) (outcome ∷ outcomes) own on =
    rw (on_own pages page account own (account_of op) on.0)
    (ap (λ bs. record_of op outcome ∷ bs) (filter-all pages page account ops outcomes own on.1))

filter-none : (pages page account : ℕ) (ops : List Op) (outcomes : List Outcome) → (account % pages ≡ page → ⊥)
    → AreOn account ops
    → on_page pages page (with_outcomes ops outcomes) ≡ []
filter-none pages page account [] outcomes other on = refl
filter-none pages page account (op ∷ ops) [] other on = refl
filter-none pages page account (op ∷ ops) (outcome ∷ outcomes) other on =
    let is : is_on_page pages page (account_of op) ≡ false =
    ap (λ n. n % pages == page) on.0 ∙ differs (account % pages) page other in
    rw is (filter-none pages page account ops outcomes other on.1)

-- a page of a longer journal
page_of-append : (pages page : ℕ) (accounts : List Opened) (journal more : List Booked)
    → page_of pages page (book_with accounts (journal ++ more))
    ≡ book_with (page_of pages page (book_with accounts journal)).accounts
    ((page_of pages page (book_with accounts journal)).journal ++ on_page pages page more)
page_of-append pages page accounts journal more =
    ap (book_with (filter (λ o. is_on_page pages page o.id) accounts))
    (filter-append (λ b. is_on_page pages page (account_of b.op)) journal more)

-- a page with one more account
pub page_of-opened : (pages page id given : ℕ) (book : Book)
    → page_of pages page (opened book id given)
    ≡ (if is_on_page pages page id then opened (page_of pages page book) id given else page_of pages page book)
page_of-opened pages page id given book =
    ap (λ accounts. book_with accounts (page_of pages page book).journal)
    (filter-append (λ (o : Opened). is_on_page pages page o.id) book.accounts (record { id = id; given = given } ∷ []))
    ∙ by (is_on_page pages page id)
  where
    new : Opened
    new = record { id = id; given = given }

    by : (b : Bool)
        → book_with ((page_of pages page book).accounts ++ cond b (new ∷ []) []) (page_of pages page book).journal
        ≡ (if b then opened (page_of pages page book) id given else page_of pages page book)
    by true = refl
    by false =
        ap (λ accounts. book_with accounts (page_of pages page book).journal)
        (append-nil (page_of pages page book).accounts)

-- what one more entry books stands behind
pub page_at-snoc : (settings : Settings) (page : ℕ) (log : List Entry) (e : Entry) (more : List Booked)
    → booked_in settings.node.laws e ≡ more
    → page_at settings page (log ++ e ∷ [])
    ≡ book_with (page_at settings page log).accounts
    ((page_at settings page log).journal ++ on_page settings.pages page more)
page_at-snoc settings page log e more is =
    ap (λ journal. page_of settings.pages page (book_with settings.accounts journal))
    (booked-snoc settings log e ∙ ap (λ bs. booked settings.node.laws log ++ bs) is)
    ∙ page_of-append settings.pages page settings.accounts (booked settings.node.laws log) more

-- A page stays with one more entry that books nothing:
pub page_at-same : (settings : Settings) (page : ℕ) (log : List Entry) (e : Entry) → booked_in settings.node.laws e ≡ []
    → page_at settings page (log ++ e ∷ []) ≡ page_at settings page log
page_at-same settings page log e none =
    page_at-snoc settings page log e [] none
    ∙ ap (book_with (page_at settings page log).accounts) (append-nil (page_at settings page log).journal)

-- one that handles no item,
pub page_at-unhandled : (settings : Settings) (page : ℕ) (log : List Entry) (step : Step) (item : Option Item)
    → page_at settings page (log ++ entry_of step item None ∷ []) ≡ page_at settings page log
page_at-unhandled settings page log step item = page_at-same settings page log (entry_of step item None) refl

-- one whose item found no room,
pub page_at-busy : (settings : Settings) (page : ℕ) (log : List Entry) (step : Step) (item : Option Item)
    → page_at settings page (log ++ entry_of step item (Some TooBusy) ∷ []) ≡ page_at settings page log
page_at-busy settings page log step item = page_at-same settings page log (entry_of step item (Some TooBusy)) refl

-- one whose item came too late,
pub page_at-stale : (settings : Settings) (page : ℕ) (log : List Entry) (step : Step) (item : Option Item) (state : ℕ)
    → page_at settings page (log ++ entry_of step item (Some (Stale state)) ∷ []) ≡ page_at settings page log
page_at-stale settings page log step item state =
    page_at-same settings page log (entry_of step item (Some (Stale state))) refl

-- what an entry of work books: the operations of what was asked, with the outcomes that the book allows
booked_for : (book : Book) (want : Option Want) (deeds : List Deed)
    → with_outcomes (ops_of want deeds) (outcomes_for book want deeds)
    ≡ with_outcomes (ops_of want deeds) (outcomes_of book (ops_of want deeds))
booked_for book None deeds = refl
booked_for book (Some want) deeds = refl

booked_in-moved : (settings : Settings) (log : List Entry) (step : Step) (item : MachineItem) (moved : Moved)
    → moved.outcomes ≡ outcomes_for (book_at settings log) (want_of settings.node.laws item moved.before) moved.deeds
    → booked_in settings.node.laws (entry_of step (Some (ToMachine item)) (Some (Move moved)))
    ≡ with_outcomes (ops_of (want_of settings.node.laws item moved.before) moved.deeds)
    (outcomes_of (book_at settings log) (ops_of (want_of settings.node.laws item moved.before) moved.deeds))
booked_in-moved settings log step item moved outcomes =
    append-nil (booked_by settings.node.laws item moved ++ []) ∙ append-nil (booked_by settings.node.laws item moved)
    ∙ ap (with_outcomes (ops_of want moved.deeds)) outcomes
    ∙ booked_for (book_at settings log) want moved.deeds
  where
    want : Option Want
    want = want_of settings.node.laws item moved.before

-- The book goes on with the operations of one more entry of work, each with the outcome that the book allows.
pub book_at-moved : (settings : Settings) (log : List Entry) (step : Step) (item : MachineItem) (moved : Moved)
    → moved.outcomes ≡ outcomes_for (book_at settings log) (want_of settings.node.laws item moved.before) moved.deeds
    → book_at settings (log ++ entry_of step (Some (ToMachine item)) (Some (Move moved)) ∷ [])
    ≡ fold after (book_at settings log) (ops_of (want_of settings.node.laws item moved.before) moved.deeds)
book_at-moved settings log step item moved outcomes =
    ap (book_with settings.accounts)
    (booked-snoc settings log (entry_of step (Some (ToMachine item)) (Some (Move moved)))
    ∙ ap (λ bs. booked settings.node.laws log ++ bs) (booked_in-moved settings log step item moved outcomes))
    ∙ sym (fold-after (book_at settings log) (ops_of (want_of settings.node.laws item moved.before) moved.deeds))

-- the page that is asked
page-asked : (settings : Settings) (page : ℕ) (log : List Entry) (want : Option Want) (deeds : List Deed)
    → IsAsked settings.pages page want
    → book_with (page_at settings page log).accounts
    ((page_at settings page log).journal
    ++ on_page settings.pages page
    (with_outcomes (ops_of want deeds) (outcomes_of (book_at settings log) (ops_of want deeds))))
    ≡ fold after (page_at settings page log) (ops_of want deeds)
page-asked settings page log None deeds own =
    ap (book_with (page_at settings page log).accounts) (append-nil (page_at settings page log).journal)
page-asked settings page log (Some want) deeds own =
    ap (λ bs. book_with (page_at settings page log).accounts ((page_at settings page log).journal ++ bs))
    (filter-all settings.pages page want.account ops (outcomes_of (book_at settings log) ops) own (ops_of-on want deeds)
    ∙ ap (with_outcomes ops) (sym (outcomes_of-page settings page log want.account ops own (ops_of-on want deeds))))
    ∙ sym (fold-after (page_at settings page log) ops)
  where
    ops : List Op
    ops = ops_of (Some want) deeds

not-asked : (settings : Settings) (page : ℕ) (want : Option Want) (deeds : List Deed) (book : Book)
    → IsNotAsked settings.pages page want
    → on_page settings.pages page (with_outcomes (ops_of want deeds) (outcomes_of book (ops_of want deeds))) ≡ []
not-asked settings page None deeds book other = refl
not-asked settings page (Some want) deeds book other =
    filter-none settings.pages page want.account (ops_of (Some want) deeds)
    (outcomes_of book (ops_of (Some want) deeds)) other (ops_of-on want deeds)

-- The page that is asked goes on with just these operations,
pub page_at-moved : (settings : Settings) (page : ℕ) (log : List Entry) (step : Step) (item : MachineItem)
    (moved : Moved)
    → moved.outcomes ≡ outcomes_for (book_at settings log) (want_of settings.node.laws item moved.before) moved.deeds
    → IsAsked settings.pages page (want_of settings.node.laws item moved.before)
    → page_at settings page (log ++ entry_of step (Some (ToMachine item)) (Some (Move moved)) ∷ [])
    ≡ fold after (page_at settings page log) (ops_of (want_of settings.node.laws item moved.before) moved.deeds)
page_at-moved settings page log step item moved outcomes own =
    page_at-snoc settings page log (entry_of step (Some (ToMachine item)) (Some (Move moved)))
    (with_outcomes ops (outcomes_of (book_at settings log) ops)) (booked_in-moved settings log step item moved outcomes)
    ∙ page-asked settings page log (want_of settings.node.laws item moved.before) moved.deeds own
  where
    ops : List Op
    ops = ops_of (want_of settings.node.laws item moved.before) moved.deeds

-- and each other page stays.
pub page_at-other : (settings : Settings) (page : ℕ) (log : List Entry) (step : Step) (item : MachineItem)
    (moved : Moved)
    → moved.outcomes ≡ outcomes_for (book_at settings log) (want_of settings.node.laws item moved.before) moved.deeds
    → IsNotAsked settings.pages page (want_of settings.node.laws item moved.before)
    → page_at settings page (log ++ entry_of step (Some (ToMachine item)) (Some (Move moved)) ∷ [])
    ≡ page_at settings page log
page_at-other settings page log step item moved outcomes other =
    page_at-snoc settings page log (entry_of step (Some (ToMachine item)) (Some (Move moved)))
    (with_outcomes ops (outcomes_of (book_at settings log) ops)) (booked_in-moved settings log step item moved outcomes)
    ∙ ap (λ bs. book_with (page_at settings page log).accounts ((page_at settings page log).journal ++ bs))
    (not-asked settings page (want_of settings.node.laws item moved.before) moved.deeds (book_at settings log) other)
    ∙ ap (book_with (page_at settings page log).accounts) (append-nil (page_at settings page log).journal)
  where
    ops : List Op
    ops = ops_of (want_of settings.node.laws item moved.before) moved.deeds

-- A book before its last operations:
back-one : (accounts : List Opened) (journal : List Booked) (b : Booked)
    → taken_back (book_with accounts (journal ++ b ∷ [])) ≡ book_with accounts journal
back-one accounts journal b =
    ap (book_with accounts) (ap (λ n. take n (journal ++ b ∷ [])) shorter ∙ take-append_seam journal (b ∷ []))
  where
    shorter : length (journal ++ b ∷ []) - 1 ≡ length journal
    shorter = omega (arith, length-append journal (b ∷ []))

pub taken_back_by-append : (accounts : List Opened) (journal more : List Booked)
    → taken_back_by (length more) (book_with accounts (journal ++ more)) ≡ book_with accounts journal
taken_back_by-append accounts journal [] = ap (book_with accounts) (append-nil journal)
taken_back_by-append accounts journal (b ∷ more) =
    ap (λ bs. taken_back (taken_back_by (length more) (book_with accounts bs)))
    (sym (append_assoc journal (b ∷ []) more))
    ∙ ap taken_back (taken_back_by-append accounts (journal ++ b ∷ []) more)
    ∙ back-one accounts journal b

-- what operations made of it is taken back,
pub taken_back_by-fold : (book : Book) (ops : List Op) → taken_back_by (length ops) (fold after book ops) ≡ book
taken_back_by-fold book [] = refl
taken_back_by-fold book (op ∷ ops) =
    ap taken_back (taken_back_by-fold (after book op) ops) ∙ back-one book.accounts book.journal (booked_of book op)

-- as long as there are some.
pub length-taken_back_by : (n : ℕ) (book : Book) → length (taken_back_by n book).journal ≡ length book.journal - n
length-taken_back_by zero book = omega arith
length-taken_back_by (suc n) book =
    let rest = (taken_back_by n book).journal in
    omega (arith, length-taken_back_by n book, length-take (length rest - 1) rest)

pub length-fold_after : (book : Book) (ops : List Op)
    → length (fold after book ops).journal ≡ length book.journal + length ops
length-fold_after book [] = omega arith
length-fold_after book (op ∷ ops) =
    omega (arith, length-fold_after (after book op) ops, length-append book.journal (booked_of book op ∷ []))

-- A page is as it was before the last entry, once what this booked there is taken back.
pub page_at-back : (settings : Settings) (page : ℕ) (log : List Entry) (e : Entry)
    → taken_back_by (length (on_page settings.pages page (booked_in settings.node.laws e)))
    (page_at settings page (log ++ e ∷ []))
    ≡ page_at settings page log
page_at-back settings page log e =
    ap (taken_back_by (length (on_page settings.pages page (booked_in settings.node.laws e))))
    (page_at-snoc settings page log e (booked_in settings.node.laws e) refl)
    ∙ taken_back_by-append (page_at settings page log).accounts (page_at settings page log).journal
    (on_page settings.pages page (booked_in settings.node.laws e))
