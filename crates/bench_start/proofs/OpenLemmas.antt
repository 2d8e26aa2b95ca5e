-- The parts of a bench as they are made, one item after the other.
use Rattle.std.proofs.Common.{◌≡◌, ◌+◌, ◌<◌, ◌≤◌, ℕ, Bool, true, false, List, [], ◌∷◌, ◌++◌, Option, Some, None, ap, arith, get_or, length, refl, subst, sym, take, ◌∙◌}
use Rattle.std.specs.Prelude.{◌==◌, ◌%◌, filter, is_some, map, nat_le, position}
use Rattle.std.specs.List.{list_any}
use Rattle.std.specs.Str.{str_to_ascii_lowercase}
use Rattle.std.proofs.lemmas.Bool.{eq-eqb, eqb-false, false≢true, lt-leb, ne_eqb, or_parts}
use Rattle.std.proofs.lemmas.List.{append-nil, get_or-map, length-map, length-take, map-append, take-map, take_more}
use Rattle.std.proofs.lemmas.List.Elements.{filter-append}
use Rattle.std.proofs.lemmas.List.Folds.{list_any_at}
use Rattle.std.proofs.lemmas.List.Quantifiers.{position-Some}
use Rattle.std.proofs.lemmas.Slice.Eq.{bytes_eq-Decides}
use Rattle.acct_book.specs.Book.{Opened, Paged, opened as with_account, refusal_of, with_book}
use Rattle.bench_item.specs.Past.{any_after}
use Rattle.bench_item.specs.Peers.{host_place, is_same_host, refusal}
use Rattle.bench_item.specs.declared.limit.TheConstants.{MAX_PEERS}
use Rattle.bench_open.specs.Given.{opened_as}
use Rattle.bench_open.specs.declared.account.Account.{Account}
use Rattle.bench_open.proofs.ListLemmas.{any_after-some}
use Rattle.bench_spec.specs.Opening.{is_bad_account, is_repeated}
use Rattle.bench_start.specs.Starting.{page_at_start}

-- where none passes after those before it, the one at a place doesn't
after-at : {X : Type 0} (test : List X → X → Bool) (xs : List X) (i : ℕ) (d : X) → i < length xs → any_after test [] xs ≡ false → test (take i xs) (get_or xs i d) ≡ false
after-at test xs i d within none = by (test (take i xs) (get_or xs i d)) refl
  where
    by : (b : Bool) → test (take i xs) (get_or xs i d) ≡ b → b ≡ false
    by false is = refl
    by true is = absurd (false≢true (sym none ∙ any_after-some test [] xs i d within is))

-- hosts are the same either way round
same-back : (a b : List ℕ) → is_same_host a b ≡ true → is_same_host b a ≡ true
same-back a b h = (bytes_eq-Decides (str_to_ascii_lowercase b) (str_to_ascii_lowercase a)).1 (sym ((bytes_eq-Decides (str_to_ascii_lowercase a) (str_to_ascii_lowercase b)).0 h))

no-place : (host : List ℕ) (hosts : List (List ℕ)) → list_any (is_same_host host) hosts ≡ false → position (λ one. is_same_host one host) hosts ≡ None
no-place host hosts none = by (position (λ one. is_same_host one host) hosts) refl
  where
    by : (o : Option ℕ) → position (λ one. is_same_host one host) hosts ≡ o → o ≡ None
    by None is = refl
    by (Some k) is =
        let at = position-Some (λ one. is_same_host one host) hosts k [] is in
        absurd (false≢true (sym none ∙ list_any_at (is_same_host host) hosts k [] at.0 (same-back (get_or hosts k []) host at.1)))

-- a host that is not among those before it may be added to them
pub free-host : (hosts : List (List ℕ)) (shards i : ℕ) (d : List ℕ) → i < length hosts → length hosts ≤ MAX_PEERS → any_after is_repeated [] hosts ≡ false
    → refusal (get_or hosts i d) (record { hosts = take i hosts; shards = shards }) ≡ None
free-host hosts shards i d within few apart =
    let absent : host_place (record { hosts = take i hosts; shards = shards }) (get_or hosts i d) ≡ None = no-place (get_or hosts i d) (take i hosts) (after-at is_repeated hosts i d within apart) in
    let room : nat_le MAX_PEERS (length (take i hosts)) ≡ false = lt-leb MAX_PEERS (length (take i hosts)) (omega (arith, within, few, length-take i hosts)) in
    rw (absent, room) refl

-- accounts as they are opened, one more
opened-more : (accounts : List Account) (i : ℕ) (d : Account) → i < length accounts → map opened_as (take (i + 1) accounts) ≡ map opened_as (take i accounts) ++ opened_as (get_or accounts i d) ∷ []
opened-more accounts i d within = ap (map opened_as) (take_more accounts i d within) ∙ map-append opened_as (take i accounts) (get_or accounts i d ∷ [])

abbrev page_with : ℕ → ℕ → List Opened → Paged
page_with count number accounts = record { number = number; pages = count; book = record { accounts = accounts; journal = [] }; room = 0 }

abbrev here : ℕ → ℕ → Opened → Bool
here count number o = o.id % count == number

alone : {X : Type 0} (p : X → Bool) (x : X) → p x ≡ true → filter p (x ∷ []) ≡ x ∷ []
alone p x is = rw is refl

left_out : {X : Type 0} (p : X → Bool) (x : X) → p x ≡ false → filter p (x ∷ []) ≡ []
left_out p x is = rw is refl

-- those on a page, one more
on_page-more : (count number : ℕ) (accounts : List Account) (i : ℕ) (d : Account) (rest : List Opened) → i < length accounts
    → filter (here count number) (opened_as (get_or accounts i d) ∷ []) ≡ rest
    → filter (here count number) (map opened_as (take (i + 1) accounts)) ≡ filter (here count number) (map opened_as (take i accounts)) ++ rest
on_page-more count number accounts i d rest within is =
    ap (filter (here count number)) (opened-more accounts i d within)
    ∙ filter-append (here count number) (map opened_as (take i accounts)) (opened_as (get_or accounts i d) ∷ [])
    ∙ ap (λ (os : List Opened). filter (here count number) (map opened_as (take i accounts)) ++ os) is

-- the page behind an account that is on it, and behind one that is not
pub page-more : (count number : ℕ) (accounts : List Account) (i : ℕ) (d : Account) → i < length accounts → (get_or accounts i d).id % count ≡ number
    → with_book (page_at_start count (map opened_as (take i accounts)) number)
    (with_account (page_at_start count (map opened_as (take i accounts)) number).book (get_or accounts i d).id (get_or accounts i d).given) 0
    ≡ page_at_start count (map opened_as (take (i + 1) accounts)) number
page-more count number accounts i d within is =
    ap (page_with count number)
    (sym (on_page-more count number accounts i d (opened_as (get_or accounts i d) ∷ []) within
    (alone (here count number) (opened_as (get_or accounts i d)) (eq-eqb ((get_or accounts i d).id % count) number is))))

pub page-same : (count number : ℕ) (accounts : List Account) (i : ℕ) (d : Account) → i < length accounts → ((get_or accounts i d).id % count ≡ number → ⊥)
    → page_at_start count (map opened_as (take i accounts)) number ≡ page_at_start count (map opened_as (take (i + 1) accounts)) number
page-same count number accounts i d within not =
    ap (page_with count number)
    (sym (on_page-more count number accounts i d [] within
    (left_out (here count number) (opened_as (get_or accounts i d)) (ne_eqb ((get_or accounts i d).id % count) number not))
    ∙ append-nil (filter (here count number) (map opened_as (take i accounts)))))

-- an account that can be opened behind those before it
not_bad : (count : ℕ) (accounts : List Account) (i : ℕ) (d : Account) → i < length accounts → any_after (is_bad_account count) [] (map opened_as accounts) ≡ false
    → is_bad_account count (map opened_as (take i accounts)) (opened_as (get_or accounts i d)) ≡ false
not_bad count accounts i d within none =
    let there : i < length (map opened_as accounts) = omega (arith, within, length-map accounts opened_as) in
    ap (λ (o : Opened). is_bad_account count (map opened_as (take i accounts)) o) (sym (get_or-map opened_as accounts i d (opened_as d) within))
    ∙ ap (λ (past : List Opened). is_bad_account count past (get_or (map opened_as accounts) i (opened_as d))) (sym (take-map opened_as i accounts))
    ∙ after-at (is_bad_account count) (map opened_as accounts) i (opened_as d) there none

pub numbered-at : (count : ℕ) (accounts : List Account) (i : ℕ) (d : Account) → i < length accounts → any_after (is_bad_account count) [] (map opened_as accounts) ≡ false
    → 0 < (get_or accounts i d).id
numbered-at count accounts i d within none =
    let has : (get_or accounts i d).id ≡ 0 → ⊥ = eqb-false (get_or accounts i d).id 0 (or_parts _ _ (not_bad count accounts i d within none)).0 in
    omega (arith, has)

is_nothing : {X : Type 0} (o : Option X) → is_some o ≡ false → o ≡ None
is_nothing None h = refl
is_nothing (Some x) h = absurd (false≢true (sym h))

pub free-account : (count number : ℕ) (accounts : List Account) (i : ℕ) (d : Account) → i < length accounts → any_after (is_bad_account count) [] (map opened_as accounts) ≡ false
    → (get_or accounts i d).id % count ≡ number
    → refusal_of (page_at_start count (map opened_as (take i accounts)) number).book (get_or accounts i d).id (get_or accounts i d).given ≡ None
free-account count number accounts i d within none is =
    is_nothing (refusal_of (page_at_start count (map opened_as (take i accounts)) number).book (get_or accounts i d).id (get_or accounts i d).given)
    (subst (λ (n : ℕ). is_some (refusal_of (page_at_start count (map opened_as (take i accounts)) n).book (get_or accounts i d).id (get_or accounts i d).given) ≡ false) is
    (or_parts _ _ (not_bad count accounts i d within none)).1)
