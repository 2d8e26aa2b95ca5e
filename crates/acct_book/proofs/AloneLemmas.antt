-- What the book says of an account is said by the operations on it alone.
use Rattle.std.proofs.Common.{◌≡◌, ℕ, ◌+◌, ◌-◌, List, [], ◌∷◌, ◌++◌, Bool, true, false, cond, Option, None, Some, refl, sym, ◌∙◌, ap, subst, arith}
use Rattle.std.specs.Prelude.{◌==◌, ◌||◌, ◌&&◌, if◌then◌else◌, sum_by}
use Rattle.std.specs.Option.{option_map, option_map_or}
use Rattle.std.specs.List.{list_any}
use Rattle.std.proofs.lemmas.List.Elements.{filter-append}
use Rattle.std.proofs.lemmas.List.Sums.{sum_by-append}
use Rattle.acct_totals.specs.declared.op.Op.{Op}
use Rattle.acct_totals.specs.declared.op.Op.TheVariants.{Reserve, Debit, Release, Charge, Refund}
use Rattle.acct_totals.specs.declared.op.Outcome.{Outcome}
use Rattle.acct_totals.specs.declared.op.Outcome.TheVariants.{Refused}
use Rattle.acct_totals.specs.declared.op.Booked.{Booked}
use Rattle.acct_totals.specs.declared.answer.Quote.{Quote}
use Rattle.acct_totals.specs.declared.slot.Slot.{Slot}
use Rattle.acct_totals.specs.Amounts.{account_of}
use Rattle.acct_totals.specs.Answers.{quote_at, outcome_at, unknown}
use Rattle.acct_book.specs.Sums.{own, own_all, reserved, debited, unpaid, ends, is_same, is_ended, left_where, reserved_where, paid_by, refunded_by, unpaid_by}
use Rattle.acct_book.specs.Book.{Book, sums_of, totals_of, own_of, outcome_of, quote_of, booked_of, after}
use Rattle.acct_book.specs.Slots.{slot_quote, after_slot, quotes_of}
use Rattle.acct_book.specs.Alone.{on_account, alone, IsOneAccount, AccountAlone, OneAccountSaysTheSame}
use Rattle.acct_book.proofs.LeftSums.{Test, eq_from, zero_if, own-left}

sum-cons : (f : Booked → ℕ) (x : Booked) (xs : List Booked) → sum_by f (x ∷ xs) ≡ f x + sum_by f xs
sum-cons f x xs = sum_by-append f (x ∷ []) xs ∙ omega arith

module _ (k : ℕ) where
  -- a list with one more in front
  kept-yes : (x : Booked) (xs : List Booked) → (account_of x.op == k) ≡ true → on_account k (x ∷ xs) ≡ x ∷ on_account k xs
  kept-yes x xs e = ap (λ (c : Bool). cond c (x ∷ on_account k xs) (on_account k xs)) e

  kept-no : (x : Booked) (xs : List Booked) → (account_of x.op == k) ≡ false → on_account k (x ∷ xs) ≡ on_account k xs
  kept-no x xs e = ap (λ (c : Bool). cond c (x ∷ on_account k xs) (on_account k xs)) e

  -- an operation on another account ends no reservation of this one
  ends-no : (s g : ℕ) (op : Op) → (account_of op == k) ≡ false → ends k s g op ≡ false
  ends-no s g (Reserve a t h n) e = refl
  ends-no s g (Debit a t h n) e = ap (λ (c : Bool). c && ((t == s) && (h == g))) e
  ends-no s g (Release a t) e = ap (λ (c : Bool). c && (t == s)) e
  ends-no s g (Charge a n) e = refl
  ends-no s g (Refund a n) e = refl

  any-alone : (s g : ℕ) (xs : List Booked) → list_any (λ (b : Booked). ends k s g b.op) xs ≡ list_any (λ (b : Booked). ends k s g b.op) (on_account k xs)
  any-alone s g [] = refl
  any-alone s g (x ∷ xs) = by (any-alone s g xs) (account_of x.op == k) refl
    where
      by : list_any (λ (b : Booked). ends k s g b.op) xs ≡ list_any (λ (b : Booked). ends k s g b.op) (on_account k xs) → (c : Bool) → (account_of x.op == k) ≡ c
          → list_any (λ (b : Booked). ends k s g b.op) (x ∷ xs) ≡ list_any (λ (b : Booked). ends k s g b.op) (on_account k (x ∷ xs))
      by h true e = ap (λ (c : Bool). ends k s g x.op || c) h ∙ sym (ap (list_any (λ (b : Booked). ends k s g b.op)) (kept-yes x xs e))
      by h false e = ap (λ (c : Bool). c || list_any (λ (b : Booked). ends k s g b.op) xs) (ends-no s g x.op e) ∙ h ∙ sym (ap (list_any (λ (b : Booked). ends k s g b.op)) (kept-no x xs e))

  is_ended-alone : (op : Op) (xs : List Booked) → (account_of op == k) ≡ true → is_ended op xs ≡ is_ended op (on_account k xs)
  is_ended-alone (Reserve a s g n) xs e =
      let on : a ≡ k = eq_from a k e in
      subst (λ m. list_any (λ (b : Booked). ends m s g b.op) xs ≡ list_any (λ (b : Booked). ends m s g b.op) (on_account k xs)) (sym on) (any-alone s g xs)
  is_ended-alone (Debit a s g n) xs e = refl
  is_ended-alone (Release a s) xs e = refl
  is_ended-alone (Charge a n) xs e = refl
  is_ended-alone (Refund a n) xs e = refl

  -- the reservations that pass a test of this account alone
  module _ (p : Test) (on : (t u v : ℕ) → (t == k) ≡ false → p t u v ≡ false) where
    reserves-no : (op : Op) (o : Outcome) → (account_of op == k) ≡ false → reserved_where p (record { op = op; outcome = o }) ≡ 0
    reserves-no (Reserve a s g n) o e = rw (on a s g e) refl
    reserves-no (Debit a s g n) o e = refl
    reserves-no (Release a s) o e = refl
    reserves-no (Charge a n) o e = refl
    reserves-no (Refund a n) o e = refl

    left-alone : (xs : List Booked) → left_where p xs ≡ left_where p (on_account k xs)
    unfolding left_where
    left-alone [] = refl
    left-alone (x ∷ xs) = by (left-alone xs) (account_of x.op == k) refl
      where
        by : left_where p xs ≡ left_where p (on_account k xs) → (c : Bool) → (account_of x.op == k) ≡ c
            → (if is_ended x.op xs then 0 else reserved_where p x) + left_where p xs ≡ left_where p (cond c (x ∷ on_account k xs) (on_account k xs))
        by h true e = (λ i. (if is_ended-alone x.op xs e i then 0 else reserved_where p x) + h i)
        by h false e = rw (reserves-no x.op x.outcome e, zero_if (is_ended x.op xs)) (omega (arith, h))

  -- a sum of what is nothing on other accounts
  sum-alone : (f : Booked → ℕ) → ((op : Op) (o : Outcome) → (account_of op == k) ≡ false → f (record { op = op; outcome = o }) ≡ 0)
      → (xs : List Booked) → sum_by f xs ≡ sum_by f (on_account k xs)
  sum-alone f other [] = refl
  sum-alone f other (x ∷ xs) = sum-cons f x xs ∙ by (sum-alone f other xs) (account_of x.op == k) refl
    where
      by : sum_by f xs ≡ sum_by f (on_account k xs) → (c : Bool) → (account_of x.op == k) ≡ c → f x + sum_by f xs ≡ sum_by f (cond c (x ∷ on_account k xs) (on_account k xs))
      by h true e = ap (λ n. f x + n) h ∙ sym (sum-cons f x (on_account k xs))
      by h false e = omega (arith, other x.op x.outcome e, h)

  paid-no : (op : Op) (o : Outcome) → (account_of op == k) ≡ false → paid_by k (record { op = op; outcome = o }) ≡ 0
  paid-no (Reserve a s g n) o e = refl
  paid-no (Debit a s g n) o e = rw e refl
  paid-no (Release a s) o e = refl
  paid-no (Charge a n) o e = rw e refl
  paid-no (Refund a n) o e = refl

  refunded-no : (op : Op) (o : Outcome) → (account_of op == k) ≡ false → refunded_by k (record { op = op; outcome = o }) ≡ 0
  refunded-no (Reserve a s g n) o e = refl
  refunded-no (Debit a s g n) o e = refl
  refunded-no (Release a s) o e = refl
  refunded-no (Charge a n) o e = refl
  refunded-no (Refund a n) o e = rw e refl

  unpaid-no : (op : Op) (o : Outcome) → (account_of op == k) ≡ false → unpaid_by k (record { op = op; outcome = o }) ≡ 0
  unpaid-no (Reserve a s g n) o e = refl
  unpaid-no (Debit a s g n) o e = rw e refl
  unpaid-no (Release a s) o e = refl
  unpaid-no (Charge a n) o e = refl
  unpaid-no (Refund a n) o e = refl

  own-alone : (s g : ℕ) (xs : List Booked) → own k s g xs ≡ own k s g (on_account k xs)
  own-alone s g xs =
      own-left k s g xs
      ∙ left-alone (is_same k s g) (λ t u v e. ap (λ (c : Bool). c && ((u == s) && (v == g))) e) xs
      ∙ sym (own-left k s g (on_account k xs))

  own_all-alone : (s : ℕ) (xs : List Booked) → own_all k s xs ≡ own_all k s (on_account k xs)
  own_all-alone s xs = left-alone (λ t u v. (t == k) && (u == s)) (λ t u v e. ap (λ (c : Bool). c && (u == s)) e) xs

  reserved-alone : (xs : List Booked) → reserved k xs ≡ reserved k (on_account k xs)
  reserved-alone xs = left-alone (λ t u v. t == k) (λ t u v e. e) xs

  debited-alone : (xs : List Booked) → debited k xs ≡ debited k (on_account k xs)
  unfolding debited
  debited-alone xs = (λ i. sum-alone (paid_by k) paid-no xs i - sum-alone (refunded_by k) refunded-no xs i)

  unpaid-alone : (xs : List Booked) → unpaid k xs ≡ unpaid k (on_account k xs)
  unfolding unpaid
  unpaid-alone xs = sum-alone (unpaid_by k) unpaid-no xs

  -- what is on the account already, is all on it
  on_account-twice : (xs : List Booked) → on_account k (on_account k xs) ≡ on_account k xs
  on_account-twice [] = refl
  on_account-twice (x ∷ xs) = by (on_account-twice xs) (account_of x.op == k) refl
    where
      by : on_account k (on_account k xs) ≡ on_account k xs → (c : Bool) → (account_of x.op == k) ≡ c → on_account k (cond c (x ∷ on_account k xs) (on_account k xs)) ≡ cond c (x ∷ on_account k xs) (on_account k xs)
      by h true e = kept-yes x (on_account k xs) e ∙ ap (λ (ys : List Booked). x ∷ ys) h
      by h false e = h

-- two journals with the same operations on an account
module _ (k : ℕ) (xs ys : List Booked) (same : on_account k xs ≡ on_account k ys) where
  own-same : (s g : ℕ) → own k s g xs ≡ own k s g ys
  own-same s g = own-alone k s g xs ∙ ap (own k s g) same ∙ sym (own-alone k s g ys)

  own_all-same : (s : ℕ) → own_all k s xs ≡ own_all k s ys
  own_all-same s = own_all-alone k s xs ∙ ap (own_all k s) same ∙ sym (own_all-alone k s ys)

  reserved-same : reserved k xs ≡ reserved k ys
  reserved-same = reserved-alone k xs ∙ ap (reserved k) same ∙ sym (reserved-alone k ys)

  debited-same : debited k xs ≡ debited k ys
  debited-same = debited-alone k xs ∙ ap (debited k) same ∙ sym (debited-alone k ys)

  unpaid-same : unpaid k xs ≡ unpaid k ys
  unpaid-same = unpaid-alone k xs ∙ ap (unpaid k) same ∙ sym (unpaid-alone k ys)

  sums-same : (given : ℕ) → sums_of given k xs ≡ sums_of given k ys
  sums-same given = (λ i. record { given = given; reserved = reserved-same i; debited = debited-same i; unpaid = unpaid-same i })

own_of-same : (op : Op) (xs ys : List Booked) → on_account (account_of op) xs ≡ on_account (account_of op) ys → own_of op xs ≡ own_of op ys
own_of-same (Reserve a s g n) xs ys h = own-same a xs ys h s g
own_of-same (Debit a s g n) xs ys h = own-same a xs ys h s g
own_of-same (Release a s) xs ys h = own_all-same a xs ys h s
own_of-same (Charge a n) xs ys h = refl
own_of-same (Refund a n) xs ys h = refl

totals-same : (k : ℕ) (b c : Book) → IsOneAccount k b c → totals_of b k ≡ totals_of c k
totals-same k b c h = (λ i. option_map (λ given. sums-same k b.journal c.journal h.journal given i) (h.opened i))

outcome-same : (op : Op) (b c : Book) → IsOneAccount (account_of op) b c → outcome_of b op ≡ outcome_of c op
outcome-same op b c h = (λ i. option_map_or (λ t. outcome_at t (own_of-same op b.journal c.journal h.journal i) op) (totals-same (account_of op) b c h i) Refused)

quote-same : (k : ℕ) (b c : Book) → IsOneAccount k b c → (s g used want : ℕ) → quote_of b k s g used want ≡ quote_of c k s g used want
quote-same k b c h s g used want = (λ i. option_map_or (λ t. quote_at t (own-same k b.journal c.journal h.journal s g i) used want) (totals-same k b c h i) unknown)

-- the account stays one and the same, after one more operation on it
after-same : (op : Op) (b c : Book) → IsOneAccount (account_of op) b c → IsOneAccount (account_of op) (after b op) (after c op)
after-same op b c h = record {
  opened = h.opened;
  journal =
      filter-append (λ (x : Booked). account_of x.op == account_of op) b.journal (booked_of b op ∷ [])
      ∙ (λ i. h.journal i ++ on_account (account_of op) ((let e : Booked = record { op = op; outcome = outcome-same op b c h i } in e) ∷ []))
      ∙ sym (filter-append (λ (x : Booked). account_of x.op == account_of op) c.journal (booked_of c op ∷ []));
}

after_slot-same : (k s : ℕ) (b c : Book) → IsOneAccount k b c → (slot : Option Slot) → IsOneAccount k (after_slot k s b slot) (after_slot k s c slot)
after_slot-same k s b c h None = h
after_slot-same k s b c h (Some slot) =
    let pay : Op = Debit k s slot.group slot.used in
    let n : ℕ = (quote_of b k s slot.group slot.used slot.want).offer in
    let m : ℕ = (quote_of c k s slot.group slot.used slot.want).offer in
    let same : n ≡ m = ap (λ (q : Quote). q.offer) (quote-same k b c h s slot.group slot.used slot.want) in
    subst (λ o. IsOneAccount k (after (after b (Debit k s slot.group slot.used)) (Reserve k s slot.group n)) (after (after c (Debit k s slot.group slot.used)) (Reserve k s slot.group o))) same
    (after-same (Reserve k s slot.group n) (after b (Debit k s slot.group slot.used)) (after c (Debit k s slot.group slot.used)) (after-same (Debit k s slot.group slot.used) b c h))

slot_quote-same : (k s : ℕ) (b c : Book) → IsOneAccount k b c → (slot : Option Slot) → slot_quote k s b slot ≡ slot_quote k s c slot
slot_quote-same k s b c h None = refl
slot_quote-same k s b c h (Some slot) = ap Some (quote-same k b c h s slot.group slot.used slot.want)

quotes-same : (k s : ℕ) (slots : List (Option Slot)) (b c : Book) → IsOneAccount k b c → quotes_of k s b slots ≡ quotes_of k s c slots
quotes-same k s [] b c h = refl
quotes-same k s (slot ∷ slots) b c h =
    (λ i. slot_quote-same k s b c h slot i ∷ quotes-same k s slots (after_slot k s b slot) (after_slot k s c slot) (after_slot-same k s b c h slot) i)

pub one_account_says_the_same : OneAccountSaysTheSame
one_account_says_the_same k b c h = record {
  reservation = own-same k b.journal c.journal h.journal;
  in_session = own_all-same k b.journal c.journal h.journal;
  all_reserved = reserved-same k b.journal c.journal h.journal;
  all_debited = debited-same k b.journal c.journal h.journal;
  all_unpaid = unpaid-same k b.journal c.journal h.journal;
  totals = totals-same k b c h;
  outcome = λ op on. outcome-same op b c (subst (λ a. IsOneAccount a b c) (sym on) h);
  quote = quote-same k b c h;
  quotes = λ s slots. quotes-same k s slots b c h;
}

pub account_alone : AccountAlone
account_alone k b = one_account_says_the_same k b (alone k b) (record { opened = refl; journal = sym (on_account-twice k b.journal) })
