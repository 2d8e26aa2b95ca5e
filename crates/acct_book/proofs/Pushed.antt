-- What one more entry does to the sums of an account.
use Rattle.std.proofs.Common.{◌≡◌, ◌≤◌, ℕ, ◌+◌, ◌-◌, List, [], ◌∷◌, ◌++◌, Bool, true, false, refl, ◌∙◌, ap, arith}
use Rattle.std.specs.Prelude.{◌==◌, ◌&&◌, if◌then◌else◌, sum_by}
use Rattle.std.proofs.lemmas.List.Sums.{sum_by-append}
use Rattle.acct_totals.specs.declared.op.Op.{Op}
use Rattle.acct_totals.specs.declared.op.Op.TheVariants.{Reserve, Debit, Release, Charge, Refund}
use Rattle.acct_totals.specs.declared.op.Outcome.{Outcome}
use Rattle.acct_totals.specs.declared.op.Booked.{Booked}
use Rattle.acct_totals.specs.Amounts.{account_of, amount_of, unpaid_of}
use Rattle.acct_book.specs.Sums.{own, own_all, reserved, debited, unpaid, paid_by, refunded_by, unpaid_by, is_same}
use Rattle.acct_book.specs.Book.{own_of}
use Rattle.acct_totals.specs.Kept.{reserved_after, debited_after, unpaid_after}
use Rattle.acct_book.proofs.LeftSums.{IsAt, and_parts, own-left, left_where-in, left_where-out, left_where-le}

abbrev pub entry : Op → Outcome → Booked
entry op o = record { op = op; outcome = o }

-- a reservation is part of what is reserved on its account
pub own-le-reserved : (a s g : ℕ) (xs : List Booked) → own a s g xs ≤ reserved a xs
own-le-reserved a s g xs =
    rw (own-left a s g xs) (left_where-le (is_same a s g) (λ t u v. t == a) (λ t u v h. (and_parts (t == a) ((u == s) && (v == g)) h).0) xs)

-- and of what is reserved in its session
pub own-le-own_all : (a s g : ℕ) (xs : List Booked) → own a s g xs ≤ own_all a s xs
own-le-own_all a s g xs =
    rw (own-left a s g xs) (left_where-le (is_same a s g) (λ t u v. (t == a) && (u == s)) (λ t u v h.
    let p = and_parts (t == a) ((u == s) && (v == g)) h in
    ap (λ b. b && (u == s)) p.0 ∙ (and_parts (u == s) (v == g) p.1).0) xs)

-- what is reserved in a session is part of what is reserved on its account
pub own_all-le-reserved : (a s : ℕ) (xs : List Booked) → own_all a s xs ≤ reserved a xs
own_all-le-reserved a s xs = left_where-le (λ t u v. (t == a) && (u == s)) (λ t u v. t == a) (λ t u v h. (and_parts (t == a) (u == s) h).0) xs

-- what is reserved, after one more entry
pub reserved-push : (k : ℕ) (xs : List Booked) (op : Op) (o : Outcome)
    → reserved k (xs ++ entry op o ∷ []) ≡ (if account_of op == k then reserved_after (reserved k xs) (own_of op xs) op o else reserved k xs)
reserved-push k xs op o = by (account_of op == k) refl
  where
    at : (op : Op) (c : Bool) → (account_of op == k) ≡ c → IsAt (λ t u v. t == k) op c
    at (Reserve a s g n) c e = e
    at (Debit a s g n) c e = e
    at (Release a s) c e = λ g. e
    at (Charge a n) c e = tt
    at (Refund a n) c e = tt

    by : (c : Bool) → (account_of op == k) ≡ c → reserved k (xs ++ entry op o ∷ []) ≡ (if c then reserved_after (reserved k xs) (own_of op xs) op o else reserved k xs)
    by true e = left_where-in (λ t u v. t == k) xs o op (at op true e)
    by false e = left_where-out (λ t u v. t == k) xs o op (at op false e)

-- a sum over the journal, after one more entry
pub sum-push : (f : Booked → ℕ) (xs : List Booked) (b : Booked) → sum_by f (xs ++ b ∷ []) ≡ sum_by f xs + f b
sum-push f xs b = sum_by-append f xs (b ∷ []) ∙ omega arith

-- what may be moved at most: what is free, with the reservation where the operation ends it, or what is debited
abbrev pub limit_of : ℕ → ℕ → ℕ → Op → ℕ
limit_of free held debited (Reserve a s g n) = free
limit_of free held debited (Debit a s g n) = held + free
limit_of free held debited (Release a s) = held
limit_of free held debited (Charge a n) = free
limit_of free held debited (Refund a n) = debited

-- no more than the refunded is debited less, and that after one more entry
module _ (k : ℕ) (xs : List Booked) (refunds : sum_by (refunded_by k) xs ≤ sum_by (paid_by k) xs) where
  pub debited-push : (op : Op) (o : Outcome) (held free : ℕ) → ((account_of op == k) ≡ true → amount_of o ≤ limit_of free held (debited k xs) op)
      → debited k (xs ++ entry op o ∷ []) ≡ (if account_of op == k then debited_after (debited k xs) op o else debited k xs)
  unfolding debited
  debited-push op o held free few = rw (sum-push (paid_by k) xs (entry op o), sum-push (refunded_by k) xs (entry op o)) (at op few)
    where
      at : (op : Op) → ((account_of op == k) ≡ true → amount_of o ≤ limit_of free held (sum_by (paid_by k) xs - sum_by (refunded_by k) xs) op)
          → sum_by (paid_by k) xs + paid_by k (entry op o) - (sum_by (refunded_by k) xs + refunded_by k (entry op o)) ≡ (if account_of op == k then debited_after (sum_by (paid_by k) xs - sum_by (refunded_by k) xs) op o else sum_by (paid_by k) xs - sum_by (refunded_by k) xs)
      at (Reserve a s g n) few = by (a == k)
        where
          by : (c : Bool) → sum_by (paid_by k) xs + 0 - (sum_by (refunded_by k) xs + 0) ≡ (if c then sum_by (paid_by k) xs - sum_by (refunded_by k) xs else sum_by (paid_by k) xs - sum_by (refunded_by k) xs)
          by true = omega arith
          by false = omega arith
      at (Debit a s g n) few = by (a == k)
        where
          by : (c : Bool) → sum_by (paid_by k) xs + (if c then amount_of o else 0) - (sum_by (refunded_by k) xs + 0) ≡ (if c then sum_by (paid_by k) xs - sum_by (refunded_by k) xs + amount_of o else sum_by (paid_by k) xs - sum_by (refunded_by k) xs)
          by true = omega arith
          by false = omega arith
      at (Release a s) few = by (a == k)
        where
          by : (c : Bool) → sum_by (paid_by k) xs + 0 - (sum_by (refunded_by k) xs + 0) ≡ (if c then sum_by (paid_by k) xs - sum_by (refunded_by k) xs else sum_by (paid_by k) xs - sum_by (refunded_by k) xs)
          by true = omega arith
          by false = omega arith
      at (Charge a n) few = by (a == k)
        where
          by : (c : Bool) → sum_by (paid_by k) xs + (if c then amount_of o else 0) - (sum_by (refunded_by k) xs + 0) ≡ (if c then sum_by (paid_by k) xs - sum_by (refunded_by k) xs + amount_of o else sum_by (paid_by k) xs - sum_by (refunded_by k) xs)
          by true = omega arith
          by false = omega arith
      at (Refund a n) few = by (a == k)
        where
          by : (c : Bool) → sum_by (paid_by k) xs + 0 - (sum_by (refunded_by k) xs + (if c then amount_of o else 0)) ≡ (if c then sum_by (paid_by k) xs - sum_by (refunded_by k) xs - amount_of o else sum_by (paid_by k) xs - sum_by (refunded_by k) xs)
          by true = omega arith
          by false = omega arith

  pub refunds-push : (op : Op) (o : Outcome) (held free : ℕ) → ((account_of op == k) ≡ true → amount_of o ≤ limit_of free held (debited k xs) op)
      → sum_by (refunded_by k) (xs ++ entry op o ∷ []) ≤ sum_by (paid_by k) (xs ++ entry op o ∷ [])
  unfolding debited
  refunds-push op o held free few = rw (sum-push (paid_by k) xs (entry op o), sum-push (refunded_by k) xs (entry op o)) (at op few)
    where
      at : (op : Op) → ((account_of op == k) ≡ true → amount_of o ≤ limit_of free held (sum_by (paid_by k) xs - sum_by (refunded_by k) xs) op)
          → sum_by (refunded_by k) xs + refunded_by k (entry op o) ≤ sum_by (paid_by k) xs + paid_by k (entry op o)
      at (Reserve a s g n) few = omega arith
      at (Debit a s g n) few = omega arith
      at (Release a s) few = omega arith
      at (Charge a n) few = omega arith
      at (Refund a n) few = by (a == k) few
        where
          by : (c : Bool) → (c ≡ true → amount_of o ≤ sum_by (paid_by k) xs - sum_by (refunded_by k) xs) → sum_by (refunded_by k) xs + (if c then amount_of o else 0) ≤ sum_by (paid_by k) xs + 0
          by true h = let b : amount_of o ≤ sum_by (paid_by k) xs - sum_by (refunded_by k) xs = h refl in omega arith
          by false h = omega arith

-- what is unpaid, after one more entry
pub unpaid-push : (k : ℕ) (xs : List Booked) (op : Op) (o : Outcome) → unpaid k (xs ++ entry op o ∷ []) ≡ (if account_of op == k then unpaid_after (unpaid k xs) op o else unpaid k xs)
unfolding unpaid
unpaid-push k xs op o = sum-push (unpaid_by k) xs (entry op o) ∙ at op
  where
    at : (op : Op) → sum_by (unpaid_by k) xs + unpaid_by k (entry op o) ≡ (if account_of op == k then unpaid_after (sum_by (unpaid_by k) xs) op o else sum_by (unpaid_by k) xs)
    at (Reserve a s g n) = same (a == k)
      where
        same : (c : Bool) → sum_by (unpaid_by k) xs + 0 ≡ (if c then sum_by (unpaid_by k) xs else sum_by (unpaid_by k) xs)
        same true = omega arith
        same false = omega arith
    at (Debit a s g n) = by (a == k)
      where
        by : (c : Bool) → sum_by (unpaid_by k) xs + (if c then unpaid_of o else 0) ≡ (if c then sum_by (unpaid_by k) xs + unpaid_of o else sum_by (unpaid_by k) xs)
        by true = refl
        by false = omega arith
    at (Release a s) = same (a == k)
      where
        same : (c : Bool) → sum_by (unpaid_by k) xs + 0 ≡ (if c then sum_by (unpaid_by k) xs else sum_by (unpaid_by k) xs)
        same true = omega arith
        same false = omega arith
    at (Charge a n) = same (a == k)
      where
        same : (c : Bool) → sum_by (unpaid_by k) xs + 0 ≡ (if c then sum_by (unpaid_by k) xs else sum_by (unpaid_by k) xs)
        same true = omega arith
        same false = omega arith
    at (Refund a n) = same (a == k)
      where
        same : (c : Bool) → sum_by (unpaid_by k) xs + 0 ≡ (if c then sum_by (unpaid_by k) xs else sum_by (unpaid_by k) xs)
        same true = omega arith
        same false = omega arith
