-- Accounts behind others.
use Rattle.std.proofs.Common.{◌≡◌, ◌+◌, ◌<◌, ◌≤◌, ℕ, suc, Bool, true, false, List, [], ◌∷◌, Some, None, ap, arith, get_or, refl, take, sym, ◌∙◌}
use Rattle.std.specs.Prelude.{◌==◌, ◌%◌, ◌||◌, filter, is_some, length, map, nat_le, nat_lt, if◌then◌else◌}
use Rattle.std.specs.List.{list_any}
use Rattle.std.proofs.lemmas.Bool.{eq-eqb, eqb-true, le-ltb, lt-ltb, ne_eqb, or_left, or_right, true≢false}
use Rattle.std.proofs.lemmas.List.{get_or-map, length-map, take-map}
use Rattle.acct_book.specs.Book.{Opened, given_of}
use Rattle.acct_book.specs.declared.error.OpenError.{OpenError}
use Rattle.acct_book.specs.declared.limit.TheConstants.{MAX_ACCOUNTS, MAX_GIVEN}
use Rattle.bench_item.specs.Past.{any_after}
use Rattle.bench_spec.specs.Opening.{is_bad_account}
use Rattle.bench_open.specs.Given.{opened_as}
use Rattle.bench_open.specs.declared.account.Account.{Account}
use Rattle.bench_open.proofs.ListLemmas.{any-map, any_after-more, any_after-some}

-- those on the page of a number
abbrev pub beside : ℕ → ℕ → List Opened → List Opened
beside pages id past = filter (λ other. other.id % pages == id % pages) past

there_of : (pages id : ℕ) (x : Opened) (xs : List Opened) (b c : Bool) → (id == x.id) ≡ b → (x.id % pages == id % pages) ≡ c → (b ≡ true → c ≡ true)
    → is_some (given_of (beside pages id xs) id) ≡ list_any (λ other. id == other.id) xs
    → is_some (given_of (beside pages id (x ∷ xs)) id) ≡ list_any (λ other. id == other.id) (x ∷ xs)
there_of pages id x xs true true own page same rest = rw (page, own) refl
there_of pages id x xs true false own page same rest = absurd (true≢false (sym (same refl)))
there_of pages id x xs false true own page same rest = rw (page, own) rest
there_of pages id x xs false false own page same rest = rw (page, own) rest

-- an account is open on its page where it is among those that were opened
pub given-there : (pages id : ℕ) (past : List Opened) → is_some (given_of (beside pages id past) id) ≡ list_any (λ other. id == other.id) past
given-there pages id [] = refl
given-there pages id (x ∷ xs) =
    there_of pages id x xs (id == x.id) (x.id % pages == id % pages) refl refl
    (λ own. eq-eqb (x.id % pages) (id % pages) (ap (λ (n : ℕ). n % pages) (sym (eqb-true id x.id own)))) (given-there pages id xs)

some_of : (a b c : Bool) (x y z : OpenError) → is_some (if a then Some x else (if b then Some y else (if c then Some z else None))) ≡ (a || (b || c))
some_of true b c x y z = refl
some_of false true c x y z = refl
some_of false false true x y z = refl
some_of false false false x y z = refl

-- why an account can't be opened behind others
pub bad-by : (pages : ℕ) (past : List Opened) (account : Opened)
    → is_bad_account pages past account
    ≡ ((account.id == 0) || (list_any (λ other. account.id == other.id) past || (nat_lt MAX_GIVEN account.given || nat_le MAX_ACCOUNTS (length (beside pages account.id past)))))
bad-by pages past account =
    ap (λ (r : Bool). (account.id == 0) || r)
    (some_of (is_some (given_of (beside pages account.id past) account.id)) (nat_lt MAX_GIVEN account.given) (nat_le MAX_ACCOUNTS (length (beside pages account.id past))) _ _ _
    ∙ ap (λ (b : Bool). b || (nat_lt MAX_GIVEN account.given || nat_le MAX_ACCOUNTS (length (beside pages account.id past)))) (given-there pages account.id past))

-- how many of accounts are on a page
count-mapped : (pages page : ℕ) (past : List Account) → length (filter (λ other. other.id % pages == page) (map opened_as past)) ≡ length (filter (λ other. other.id % pages == page) past)
count-mapped pages page [] = refl
count-mapped pages page (x ∷ xs) = by (x.id % pages == page) refl (count-mapped pages page xs)
  where
    by : (b : Bool) → (x.id % pages == page) ≡ b → length (filter (λ other. other.id % pages == page) (map opened_as xs)) ≡ length (filter (λ other. other.id % pages == page) xs)
        → length (filter (λ other. other.id % pages == page) (map opened_as (x ∷ xs))) ≡ length (filter (λ other. other.id % pages == page) (x ∷ xs))
    by true is rest = rw (is) (ap suc rest)
    by false is rest = rw (is) rest

abbrev pub bad : ℕ → List Account → Account → Bool
bad pages past account = is_bad_account pages (map opened_as past) (opened_as account)

-- why an account is a bad one, reason by reason
abbrev there : List Account → Account → Bool
there past account = list_any (λ other. account.id == other.id) (map opened_as past)

abbrev full : ℕ → List Account → Account → Bool
full pages past account = nat_le MAX_ACCOUNTS (length (beside pages account.id (map opened_as past)))

abbrev much : Account → Bool
much account = nat_lt MAX_GIVEN account.given

pub bad-number : (pages : ℕ) (past : List Account) (account : Account) → account.id ≡ 0 → true ≡ bad pages past account
bad-number pages past account h =
    sym (bad-by pages (map opened_as past) (opened_as account) ∙ or_left (account.id == 0) (there past account || (much account || full pages past account)) (eq-eqb account.id 0 h))

pub bad-there : (pages : ℕ) (past : List Account) (account : Account) → list_any (λ other. account.id == other.id) past ≡ true → true ≡ bad pages past account
bad-there pages past account h =
    sym (bad-by pages (map opened_as past) (opened_as account)
    ∙ or_right (account.id == 0) (there past account || (much account || full pages past account))
    (or_left (there past account) (much account || full pages past account) (any-map (λ (other : Opened). account.id == other.id) opened_as past ∙ h)))

pub bad-given : (pages : ℕ) (past : List Account) (account : Account) → MAX_GIVEN < account.given → true ≡ bad pages past account
bad-given pages past account h =
    sym (bad-by pages (map opened_as past) (opened_as account)
    ∙ or_right (account.id == 0) (there past account || (much account || full pages past account))
    (or_right (there past account) (much account || full pages past account)
    (or_left (much account) (full pages past account) (lt-ltb MAX_GIVEN account.given h))))

last : (a b c d : Bool) → a ≡ false → b ≡ false → c ≡ false → d ≡ (a || (b || (c || d)))
last a b c d n m k = rw (n, m, k) refl

pub bad-full : (pages : ℕ) (past : List Account) (account : Account) (count : ℕ) → (account.id ≡ 0 → ⊥) → list_any (λ other. account.id == other.id) past ≡ false
    → account.given ≤ MAX_GIVEN → count ≡ length (filter (λ other. other.id % pages == account.id % pages) past) → nat_le MAX_ACCOUNTS count ≡ bad pages past account
bad-full pages past account count some apart few is =
    ap (nat_le MAX_ACCOUNTS) (is ∙ sym (count-mapped pages (account.id % pages) past))
    ∙ last (account.id == 0) (there past account) (much account) (full pages past account) (ne_eqb account.id 0 some) (any-map (λ (other : Opened). account.id == other.id) opened_as past ∙ apart) (le-ltb MAX_GIVEN account.given few)
    ∙ sym (bad-by pages (map opened_as past) (opened_as account))

-- accounts of which one is bad, and of which none is so far
at : (pages : ℕ) (accounts : List Account) (i : ℕ) (d : Account) (b : Bool) → i < length accounts → bad pages (take i accounts) (get_or accounts i d) ≡ b
    → is_bad_account pages (take i (map opened_as accounts)) (get_or (map opened_as accounts) i (opened_as d)) ≡ b
at pages accounts i d b within is =
    ap (λ (past : List Opened). is_bad_account pages past (get_or (map opened_as accounts) i (opened_as d))) (take-map opened_as i accounts)
    ∙ ap (is_bad_account pages (map opened_as (take i accounts))) (get_or-map opened_as accounts i d (opened_as d) within)
    ∙ is

inside : (accounts : List Account) (i : ℕ) → i < length accounts → i < length (map opened_as accounts)
inside accounts i within = omega (arith, within, length-map accounts opened_as)

pub some-bad : (pages : ℕ) (accounts : List Account) (i : ℕ) (d : Account) → i < length accounts → bad pages (take i accounts) (get_or accounts i d) ≡ true
    → true ≡ any_after (is_bad_account pages) [] (map opened_as accounts)
some-bad pages accounts i d within is =
    sym (any_after-some (is_bad_account pages) [] (map opened_as accounts) i (opened_as d) (inside accounts i within) (at pages accounts i d true within is))

pub none-bad : (pages : ℕ) (accounts : List Account) (i : ℕ) (d : Account) → i < length accounts → any_after (is_bad_account pages) [] (map opened_as (take i accounts)) ≡ false
    → bad pages (take i accounts) (get_or accounts i d) ≡ false → any_after (is_bad_account pages) [] (map opened_as (take (i + 1) accounts)) ≡ false
none-bad pages accounts i d within so_far is =
    ap (any_after (is_bad_account pages) []) (sym (take-map opened_as (i + 1) accounts))
    ∙ any_after-more (is_bad_account pages) (map opened_as accounts) i (opened_as d) (inside accounts i within)
    (ap (any_after (is_bad_account pages) []) (take-map opened_as i accounts) ∙ so_far) (at pages accounts i d false within is)
