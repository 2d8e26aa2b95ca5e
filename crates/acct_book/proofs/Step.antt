-- One operation, carried out and booked, keeps the totals the sums of the journal.
use Rattle.std.proofs.Common.{◌≡◌, ◌≤◌, ℕ, ◌+◌, ◌^◌, List, [], ◌∷◌, ◌++◌, Bool, true, false, true≢false, length, refl, sym, ◌∙◌, ap, subst, arith, length-append}
use Rattle.std.specs.Prelude.{◌==◌, if◌then◌else◌, nat_le}
use Rattle.std.proofs.lemmas.Bool.Decides.{nat_tests}
use Rattle.acct_totals.specs.declared.op.Op.{Op}
use Rattle.acct_totals.specs.declared.op.Op.TheVariants.{Reserve, Debit, Release, Charge, Refund}
use Rattle.acct_totals.specs.declared.op.Outcome.{Outcome}
use Rattle.acct_totals.specs.declared.op.Outcome.TheVariants.{Done, Refused}
use Rattle.acct_totals.specs.declared.op.Booked.{Booked}
use Rattle.acct_totals.specs.declared.answer.Totals.{Totals}
use Rattle.acct_totals.specs.Amounts.{account_of, amount_of, unpaid_of}
use Rattle.acct_book.specs.Sums.{reserved, debited, unpaid}
use Rattle.acct_totals.specs.Answers.{free_of, outcome_at}
use Rattle.acct_book.specs.Book.{own_of}
use Rattle.acct_totals.specs.Kept.{reserved_after, debited_after, unpaid_after, totals_after}
use Rattle.acct_book.specs.Ledger.{IsSummedFor, IsKeptFor}
use Rattle.acct_book.proofs.Pushed.{entry, limit_of, reserved-push, debited-push, refunds-push, unpaid-push}

-- an outcome that moves no more than may be moved
pub record IsWithinLimit (t : Totals) (held : ℕ) (op : Op) (o : Outcome) : Type 0 where
  pub moved : amount_of o ≤ limit_of (free_of t) held t.debited op
  pub fits : unpaid_of o ≤ 2 ^ 64

le_from : (m n : ℕ) → nat_le m n ≡ true → m ≤ n
le_from m n h = grind (arith, nat_tests)

moved_if : (n f : ℕ) (b : Bool) → nat_le n f ≡ b → amount_of (if b then Done n 0 else Refused) ≤ f
moved_if n f true h = le_from n f h
moved_if n f false h = omega arith

-- the outcome that is allowed moves no more than may be moved
pub outcome_at-moved : (t : Totals) (held : ℕ) (op : Op) → amount_of (outcome_at t held op) ≤ limit_of (free_of t) held t.debited op
outcome_at-moved t held (Reserve a s g n) = moved_if n (free_of t) (nat_le n (free_of t)) refl
outcome_at-moved t held (Debit a s g n) = omega arith
outcome_at-moved t held (Release a s) = omega arith
outcome_at-moved t held (Charge a n) = moved_if n (free_of t) (nat_le n (free_of t)) refl
outcome_at-moved t held (Refund a n) = omega arith

-- a refusal moves nothing
pub refused-moved : (t : Totals) (held : ℕ) (op : Op) → IsWithinLimit t held op Refused
refused-moved t held op = record { moved = omega arith; fits = omega arith }

-- no more is reserved and debited than was given, after an operation that moves no more than may be moved
totals_after-within : (t : Totals) (held : ℕ) (op : Op) (o : Outcome) → held ≤ t.reserved → t.reserved + t.debited ≤ t.given → amount_of o ≤ limit_of (free_of t) held t.debited op
    → reserved_after t.reserved held op o + debited_after t.debited op o ≤ t.given
totals_after-within t held (Reserve a s g n) o part within few = omega arith
totals_after-within t held (Debit a s g n) o part within few = omega arith
totals_after-within t held (Release a s) o part within few = omega arith
totals_after-within t held (Charge a n) o part within few = omega arith
totals_after-within t held (Refund a n) o part within few = omega arith

unpaid_after-le : (unpaid : ℕ) (op : Op) (o : Outcome) → unpaid_of o ≤ 2 ^ 64 → unpaid_after unpaid op o ≤ unpaid + 2 ^ 64
unpaid_after-le unpaid (Reserve a s g n) o h = omega arith
unpaid_after-le unpaid (Debit a s g n) o h = omega arith
unpaid_after-le unpaid (Release a s) o h = omega arith
unpaid_after-le unpaid (Charge a n) o h = omega arith
unpaid_after-le unpaid (Refund a n) o h = omega arith

length-push : (xs : List Booked) (b : Booked) → length (xs ++ b ∷ []) ≡ length xs + 1
length-push xs b = length-append xs (b ∷ [])

module _ (k : ℕ) (t : Totals) (xs : List Booked) (op : Op) (o : Outcome) (held : ℕ) (h : IsSummedFor k t xs) where
  -- the sums of the account that the operation is on
  pub IsSummedFor-own : (account_of op == k) ≡ true → held ≡ own_of op xs → held ≤ t.reserved → amount_of o ≤ limit_of (free_of t) held t.debited op
      → IsSummedFor k (totals_after t held op o) (xs ++ entry op o ∷ [])
  IsSummedFor-own on own_is part moved =
      let reserved_is : t.reserved ≡ reserved k xs = ap (λ (x : Totals). x.reserved) h.sums in
      let debited_is : t.debited ≡ debited k xs = ap (λ (x : Totals). x.debited) h.sums in
      let unpaid_is : t.unpaid ≡ unpaid k xs = ap (λ (x : Totals). x.unpaid) h.sums in
      let few : amount_of o ≤ limit_of (free_of t) held (debited k xs) op = subst (λ d. amount_of o ≤ limit_of (free_of t) held d op) debited_is moved in
      let r : reserved k (xs ++ entry op o ∷ []) ≡ reserved_after (reserved k xs) (own_of op xs) op o =
      reserved-push k xs op o ∙ ap (λ (c : Bool). if c then reserved_after (reserved k xs) (own_of op xs) op o else reserved k xs) on in
      let d : debited k (xs ++ entry op o ∷ []) ≡ debited_after (debited k xs) op o =
      debited-push k xs h.refunds op o held (free_of t) (λ _. few) ∙ ap (λ (c : Bool). if c then debited_after (debited k xs) op o else debited k xs) on in
      let u : unpaid k (xs ++ entry op o ∷ []) ≡ unpaid_after (unpaid k xs) op o =
      unpaid-push k xs op o ∙ ap (λ (c : Bool). if c then unpaid_after (unpaid k xs) op o else unpaid k xs) on in
      let r2 : reserved_after t.reserved held op o ≡ reserved k (xs ++ entry op o ∷ []) = (λ i. reserved_after (reserved_is i) (own_is i) op o) ∙ sym r in
      let d2 : debited_after t.debited op o ≡ debited k (xs ++ entry op o ∷ []) = ap (λ x. debited_after x op o) debited_is ∙ sym d in
      let u2 : unpaid_after t.unpaid op o ≡ unpaid k (xs ++ entry op o ∷ []) = ap (λ x. unpaid_after x op o) unpaid_is ∙ sym u in
      record {
        sums = (λ i. record { given = t.given; reserved = r2 i; debited = d2 i; unpaid = u2 i });
        within = totals_after-within t held op o part h.within moved;
        refunds = refunds-push k xs h.refunds op o held (free_of t) (λ _. few);
      }

  -- those of another account
  pub IsSummedFor-other : (account_of op == k) ≡ false → IsSummedFor k t (xs ++ entry op o ∷ [])
  IsSummedFor-other off =
      let no : (account_of op == k) ≡ true → amount_of o ≤ limit_of (free_of t) held (debited k xs) op = λ on. absurd (true≢false (sym on ∙ off)) in
      let r : reserved k (xs ++ entry op o ∷ []) ≡ reserved k xs =
      reserved-push k xs op o ∙ ap (λ (c : Bool). if c then reserved_after (reserved k xs) (own_of op xs) op o else reserved k xs) off in
      let d : debited k (xs ++ entry op o ∷ []) ≡ debited k xs =
      debited-push k xs h.refunds op o held (free_of t) no ∙ ap (λ (c : Bool). if c then debited_after (debited k xs) op o else debited k xs) off in
      let u : unpaid k (xs ++ entry op o ∷ []) ≡ unpaid k xs =
      unpaid-push k xs op o ∙ ap (λ (c : Bool). if c then unpaid_after (unpaid k xs) op o else unpaid k xs) off in
      record {
        sums = h.sums ∙ (λ i. record { given = t.given; reserved = sym r i; debited = sym d i; unpaid = sym u i });
        within = h.within;
        refunds = refunds-push k xs h.refunds op o held (free_of t) no;
      }

module _ (k : ℕ) (t : Totals) (xs : List Booked) (op : Op) (o : Outcome) (held : ℕ) (h : IsKeptFor k t xs) where
  -- what is kept of the account that the operation is on
  pub IsKeptFor-own : (account_of op == k) ≡ true → held ≡ own_of op xs → held ≤ t.reserved → IsWithinLimit t held op o → IsKeptFor k (totals_after t held op o) (xs ++ entry op o ∷ [])
  IsKeptFor-own on own_is part limit = record {
    summed = IsSummedFor-own k t xs op o held h.summed on own_is part limit.moved;
    small = h.small;
    few = omega (arith, unpaid_after-le t.unpaid op o limit.fits, h.few, length-push xs (entry op o));
  }

  -- and of another account
  pub IsKeptFor-other : (account_of op == k) ≡ false → IsKeptFor k t (xs ++ entry op o ∷ [])
  IsKeptFor-other off = record {
    summed = IsSummedFor-other k t xs op o held h.summed off;
    small = h.small;
    few = omega (arith, h.few, length-push xs (entry op o));
  }
