-- The last operation, taken back.
use Rattle.std.proofs.Common.{◌≡◌, ◌≤◌, ℕ, ◌+◌, ◌-◌, List, [], ◌∷◌, ◌++◌, Bool, true, false, length, reverse, Option, None, Some, refl, sym, ◌∙◌, ap, subst, arith, length-append}
use Rattle.std.specs.Prelude.{◌==◌, if◌then◌else◌, sum_by, unwrap_or, option_to_list}
use Rattle.std.proofs.lemmas.List.{length-reverse}
use Rattle.acct_totals.specs.declared.op.Op.{Op}
use Rattle.acct_totals.specs.declared.op.Op.TheVariants.{Reserve, Debit, Release, Charge, Refund}
use Rattle.acct_totals.specs.declared.op.Outcome.{Outcome}
use Rattle.acct_totals.specs.declared.op.Booked.{Booked}
use Rattle.acct_totals.specs.declared.answer.Totals.{Totals}
use Rattle.acct_book.specs.declared.holds.Before.{Before}
use Rattle.acct_book.specs.declared.ledger.Ledger.{Ledger}
use Rattle.acct_totals.specs.Amounts.{account_of, amount_of, unpaid_of}
use Rattle.acct_book.specs.Sums.{reserved, debited, unpaid, paid_by, refunded_by}
use Rattle.acct_book.specs.Book.{own_of, sums_of, given_of}
use Rattle.acct_totals.specs.Kept.{reserved_after, debited_after, unpaid_after, totals_after, totals_before, IsSound, IsLeft}
use Rattle.acct_book.specs.Stored.{Stored, stored_of, undone, IsPlaced}
use Rattle.acct_book.specs.Ledger.{kept, opened_of, held_on, IsStored, IsStoredBack, IsMarked, EachBack, IsKeptFor, IsKept, HasRoom, IsUndone}
use Rattle.std.proofs.lemmas.Bool.Decides.{nat_tests}
use Rattle.acct_book.proofs.LeftSums.{eq_from}
use Rattle.acct_book.proofs.Pushed.{entry, limit_of, sum-push, reserved-push, debited-push, unpaid-push}
use Rattle.acct_book.proofs.BackLemmas.{each_back-pop, each_back-top, stored-top, stored_back-pop}
use Rattle.acct_book.proofs.LedgerLemmas.{own_of-le}

held_on-stored : (st : Stored) (xs : List Booked) → IsStored st xs → (op : Op) → held_on st op ≡ own_of op xs
held_on-stored st xs s (Reserve a u g n) = s.own (record { account = a; session = u; group = g })
held_on-stored st xs s (Debit a u g n) = s.own (record { account = a; session = u; group = g })
held_on-stored st xs s (Release a u) = s.total (record { account = a; session = u })
held_on-stored st xs s (Charge a n) = refl
held_on-stored st xs s (Refund a n) = refl

-- what an account was given stays
pub given_before : (t : Totals) (held : ℕ) (op : Op) (o : Outcome) → (totals_before t held op o).given ≡ t.given
given_before t held (Reserve a u g n) o = refl
given_before t held (Debit a u g n) o = refl
given_before t held (Release a u) o = refl
given_before t held (Charge a n) o = refl
given_before t held (Refund a n) o = refl

-- each entry has what it wrote over
befores-enough : (st : Stored) (bs : List Booked) (ws : List (Option Before)) → IsStoredBack st bs ws → length bs ≤ length ws
befores-enough st [] ws h = omega arith
befores-enough st (b ∷ bs) [] h = absurd h
befores-enough st (b ∷ bs) (w ∷ ws) h = let r = befores-enough (undone st b.op w) bs ws h.1.1 in omega arith

-- so the last entry has
pub before-last : (l : Ledger) → IsKept l → (xs : List Booked) (b : Booked) (ws : List (Option Before)) (r : Option (Option Before)) → l.journal.items ≡ xs ++ b ∷ []
    → l.befores.items ≡ ws ++ option_to_list r → (r ≡ None → length l.befores.items ≡ 0) → l.befores.items ≡ ws ++ unwrap_or r None ∷ []
before-last l h xs b ws (Some w) entries befores empty = befores
before-last l h xs b ws None entries befores empty =
    let n : length l.befores.items ≡ 0 = empty refl in
    let m : length l.journal.items ≡ length xs + 1 = ap length entries ∙ length-append xs (b ∷ []) in
    absurd (omega (arith, n, m, befores-enough (stored_of l.holds) (reverse l.journal.items) (reverse l.befores.items) h.stored, length-reverse l.journal.items, length-reverse l.befores.items))

same_totals : (t : Totals) (r d u : ℕ) → r ≡ t.reserved → d ≡ t.debited → u ≡ t.unpaid → (let x : Totals = record { given = t.given; reserved = r; debited = d; unpaid = u } in x) ≡ t
same_totals t r d u x y z = λ i. record { given = t.given; reserved = x i; debited = y i; unpaid = z i }

-- what may be paid back: for a Refund no more than is debited
abbrev IsRefundable : Totals → Op → Outcome → Type 0
IsRefundable t (Refund a n) o = amount_of o ≤ t.debited
IsRefundable t op o = Unit {0}

-- what an operation left gives what it found
before-after : (t : Totals) (held : ℕ) (op : Op) (o : Outcome) → held ≤ t.reserved → IsRefundable t op o → totals_before (totals_after t held op o) held op o ≡ t
before-after t held (Reserve a u g n) o part refund = same_totals t (t.reserved + amount_of o - amount_of o) t.debited t.unpaid (omega arith) refl refl
before-after t held (Debit a u g n) o part refund = same_totals t (t.reserved - held + held) (t.debited + amount_of o - amount_of o) (t.unpaid + unpaid_of o - unpaid_of o) (omega arith) (omega arith) (omega arith)
before-after t held (Release a u) o part refund = same_totals t (t.reserved - held + held) t.debited t.unpaid (omega arith) refl refl
before-after t held (Charge a n) o part refund = same_totals t t.reserved (t.debited + amount_of o - amount_of o) t.unpaid refl (omega arith) refl
before-after t held (Refund a n) o part refund = same_totals t t.reserved (t.debited - amount_of o + amount_of o) t.unpaid refl (omega arith) refl

module _ (given k : ℕ) (xs : List Booked) (op : Op) (o : Outcome) (h : IsKeptFor k (sums_of given k xs) xs) (more : IsKeptFor k (sums_of given k (xs ++ entry op o ∷ [])) (xs ++ entry op o ∷ [])) where
  unfolding_debited : debited k xs ≡ sum_by (paid_by k) xs - sum_by (refunded_by k) xs
  unfolding debited
  unfolding_debited = refl

  few : (op' : Op) → op' ≡ op → (account_of op' == k) ≡ true → amount_of o ≤ limit_of (amount_of o) (amount_of o) (debited k xs) op'
  few (Reserve a u g n) is on = omega arith
  few (Debit a u g n) is on = omega arith
  few (Release a u) is on = omega arith
  few (Charge a n) is on = omega arith
  few (Refund a n) is on =
      let r : sum_by (refunded_by k) (xs ++ entry op o ∷ []) ≡ sum_by (refunded_by k) xs + amount_of o =
      sum-push (refunded_by k) xs (entry op o)
      ∙ ap (λ (x : Op). sum_by (refunded_by k) xs + refunded_by k (entry x o)) (sym is)
      ∙ ap (λ (c : Bool). sum_by (refunded_by k) xs + (if c then amount_of o else 0)) on in
      let p : sum_by (paid_by k) (xs ++ entry op o ∷ []) ≡ sum_by (paid_by k) xs =
      sum-push (paid_by k) xs (entry op o) ∙ ap (λ (x : Op). sum_by (paid_by k) xs + paid_by k (entry x o)) (sym is) ∙ omega arith in
      omega (arith, r, p, more.summed.refunds, h.summed.refunds, unfolding_debited)

  refundable : (op' : Op) → op' ≡ op → (account_of op' == k) ≡ true → IsRefundable (sums_of given k xs) op' o
  refundable (Reserve a u g n) is on = tt
  refundable (Debit a u g n) is on = tt
  refundable (Release a u) is on = tt
  refundable (Charge a n) is on = tt
  refundable (Refund a n) is on = few (Refund a n) is on

  -- the sums after one more operation of the account
  sums-own : (account_of op == k) ≡ true → sums_of given k (xs ++ entry op o ∷ []) ≡ totals_after (sums_of given k xs) (own_of op xs) op o
  sums-own on =
      let r : reserved k (xs ++ entry op o ∷ []) ≡ reserved_after (reserved k xs) (own_of op xs) op o =
      reserved-push k xs op o ∙ ap (λ (c : Bool). if c then reserved_after (reserved k xs) (own_of op xs) op o else reserved k xs) on in
      let d : debited k (xs ++ entry op o ∷ []) ≡ debited_after (debited k xs) op o =
      debited-push k xs h.summed.refunds op o (amount_of o) (amount_of o) (few op refl) ∙ ap (λ (c : Bool). if c then debited_after (debited k xs) op o else debited k xs) on in
      let u : unpaid k (xs ++ entry op o ∷ []) ≡ unpaid_after (unpaid k xs) op o =
      unpaid-push k xs op o ∙ ap (λ (c : Bool). if c then unpaid_after (unpaid k xs) op o else unpaid k xs) on in
      λ i. record { given = given; reserved = r i; debited = d i; unpaid = u i }

  sums-other : (account_of op == k) ≡ false → sums_of given k (xs ++ entry op o ∷ []) ≡ sums_of given k xs
  sums-other off =
      let r : reserved k (xs ++ entry op o ∷ []) ≡ reserved k xs =
      reserved-push k xs op o ∙ ap (λ (c : Bool). if c then reserved_after (reserved k xs) (own_of op xs) op o else reserved k xs) off in
      let d : debited k (xs ++ entry op o ∷ []) ≡ debited k xs =
      debited-push k xs h.summed.refunds op o (amount_of o) (amount_of o) (few op refl) ∙ ap (λ (c : Bool). if c then debited_after (debited k xs) op o else debited k xs) off in
      let u : unpaid k (xs ++ entry op o ∷ []) ≡ unpaid k xs =
      unpaid-push k xs op o ∙ ap (λ (c : Bool). if c then unpaid_after (unpaid k xs) op o else unpaid k xs) off in
      λ i. record { given = given; reserved = r i; debited = d i; unpaid = u i }

  -- what the operation found, by what it left
  before-sums : (account_of op == k) ≡ true → totals_before (sums_of given k (xs ++ entry op o ∷ [])) (own_of op xs) op o ≡ sums_of given k xs
  before-sums on =
      ap (λ t. totals_before t (own_of op xs) op o) (sums-own on)
      ∙ before-after (sums_of given k xs) (own_of op xs) op o (subst (λ x. own_of op xs ≤ reserved x xs) (eq_from (account_of op) k on) (own_of-le op xs)) (refundable op refl on)

-- a ledger whose last operation is at hand
module _ (l : Ledger) (h : IsKept l) (xs : List Booked) (ws : List (Option Before)) (op : Op) (o : Outcome) (w : Option Before)
    (entries : l.journal.items ≡ xs ++ entry op o ∷ []) (befores : l.befores.items ≡ ws ++ w ∷ []) where
  back : IsMarked (stored_of l.holds) op w × IsStoredBack (undone (stored_of l.holds) op w) (reverse xs) (reverse ws)
  back = stored_back-pop (stored_of l.holds) xs ws (entry op o) w
      (subst (λ js. IsStoredBack (stored_of l.holds) (reverse js) (reverse (ws ++ w ∷ []))) entries
      (subst (λ bs. IsStoredBack (stored_of l.holds) (reverse l.journal.items) (reverse bs)) befores h.stored))

  pub marked-last : IsMarked (stored_of l.holds) op w
  marked-last = back.0

  held : held_on (undone (stored_of l.holds) op w) op ≡ own_of op xs
  held = held_on-stored (undone (stored_of l.holds) op w) xs (stored-top (undone (stored_of l.holds) op w) xs (reverse ws) back.1) op

  past : (a : ℕ) → EachBack (λ ys. IsKeptFor a (sums_of (kept l.accounts a).given a ys) ys) (reverse xs)
  past a = each_back-pop (λ ys. IsKeptFor a (sums_of (kept l.accounts a).given a ys) ys) xs (entry op o)
      (subst (λ js. EachBack (λ ys. IsKeptFor a (sums_of (kept l.accounts a).given a ys) ys) (reverse js)) entries (h.past a))

  found : (a : ℕ) → IsKeptFor a (sums_of (kept l.accounts a).given a xs) xs
  found a = each_back-top (λ ys. IsKeptFor a (sums_of (kept l.accounts a).given a ys) ys) xs (past a)

  now_is : (a : ℕ) → kept l.accounts a ≡ sums_of (kept l.accounts a).given a (xs ++ entry op o ∷ [])
  now_is a = subst (λ js. kept l.accounts a ≡ sums_of (kept l.accounts a).given a js) entries (h.totals a).summed.sums

  now_kept : (a : ℕ) → IsKeptFor a (sums_of (kept l.accounts a).given a (xs ++ entry op o ∷ [])) (xs ++ entry op o ∷ [])
  now_kept a = subst (λ t. IsKeptFor a t (xs ++ entry op o ∷ [])) (now_is a) (subst (λ js. IsKeptFor a (kept l.accounts a) js) entries (h.totals a))

  was : (a : ℕ) → (account_of op == a) ≡ true → totals_before (kept l.accounts a) (held_on (undone (stored_of l.holds) op w) op) op o ≡ sums_of (kept l.accounts a).given a xs
  was a on =
      (λ i. totals_before (now_is a i) (held i) op o) ∙ before-sums (kept l.accounts a).given a xs op o (found a) (now_kept a) on

  same_account : (account_of op == account_of op) ≡ true
  same_account = grind (arith, nat_tests)

  -- what is kept is what the operation left
  pub IsLeft-last : IsLeft (kept l.accounts (account_of op)) (held_on (undone (stored_of l.holds) op w) op) op o
  IsLeft-last =
      let a : ℕ = account_of op in
      let e = was (account_of op) same_account in
      let f = found (account_of op) in
      record {
        left = now_is (account_of op) ∙ sums-own (kept l.accounts (account_of op)).given (account_of op) xs op o (found (account_of op)) (now_kept (account_of op)) same_account
            ∙ (λ i. totals_after (sym e i) (sym held i) op o);
        sound = subst (λ t. IsSound t 0) (sym e) (record { part = omega arith; within = f.summed.within; small = f.small });
      }

  -- with it undone, all is kept for the journal before
  pub IsKept-back : (mid n : Ledger) → IsUndone l op o w mid → n.accounts ≡ mid.accounts → n.holds ≡ mid.holds → n.journal.items ≡ xs → n.befores.items ≡ ws → HasRoom n n.room → IsKept n
  IsKept-back mid n u same_accounts same_holds popped removed room = record {
    totals = λ a. subst (λ js. IsKeptFor a (kept n.accounts a) js) (sym popped) (subst (λ t. IsKeptFor a t xs) (sym (total a)) (found a));
    past = λ a. subst (λ js. EachBack (λ ys. IsKeptFor a (sums_of (kept n.accounts a).given a ys) ys) (reverse js)) (sym popped)
        (subst (λ (t : Totals). EachBack (λ ys. IsKeptFor a (sums_of t.given a ys) ys) (reverse xs)) (sym (total a)) (past a));
    stored = subst (λ m. IsStoredBack (stored_of m) (reverse n.journal.items) (reverse n.befores.items)) (sym same_holds)
        (subst (λ st. IsStoredBack st (reverse n.journal.items) (reverse n.befores.items)) (sym u.stored)
        (subst (λ js. IsStoredBack (undone (stored_of l.holds) op w) (reverse js) (reverse n.befores.items)) (sym popped)
        (subst (λ bs. IsStoredBack (undone (stored_of l.holds) op w) (reverse xs) (reverse bs)) (sym removed) back.1)));
    placed = subst IsPlaced (sym same_holds) u.placed;
    zero = ap (λ m. given_of (opened_of m) 0) same_accounts ∙ ap (λ os. given_of os 0) u.opened ∙ h.zero;
    room = room;
  }
    where
      by : (a : ℕ) (c : Bool) → (account_of op == a) ≡ c → (if c then totals_before (kept l.accounts a) (held_on (undone (stored_of l.holds) op w) op) op o else kept l.accounts a) ≡ sums_of (kept l.accounts a).given a xs
      by a true on = was a on
      by a false off = now_is a ∙ sums-other (kept l.accounts a).given a xs op o (found a) (now_kept a) off

      total : (a : ℕ) → kept n.accounts a ≡ sums_of (kept l.accounts a).given a xs
      total a = ap (λ m. kept m a) same_accounts ∙ u.totals a ∙ by a (account_of op == a) refl
