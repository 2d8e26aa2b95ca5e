-- A journal whose outcomes are the allowed ones stays within what was given.
use Rattle.std.proofs.Common.{◌≡◌, ◌≤◌, ℕ, ◌+◌, List, [], ◌∷◌, ◌++◌, Bool, true, false, Option, None, Some, refl, sym, ◌∙◌, ap, subst, arith, append_assoc}
use Rattle.std.specs.Prelude.{◌==◌, IfSome}
use Rattle.std.specs.Option.{option_map, option_map_or}
use Rattle.std.proofs.lemmas.List.{append-nil}
use Rattle.acct_totals.specs.declared.op.Op.{Op}
use Rattle.acct_totals.specs.declared.op.Outcome.{Outcome}
use Rattle.acct_totals.specs.declared.op.Outcome.TheVariants.{Refused}
use Rattle.acct_totals.specs.declared.op.Booked.{Booked}
use Rattle.acct_totals.specs.declared.answer.Totals.{Totals}
use Rattle.acct_totals.specs.Amounts.{account_of, amount_of}
use Rattle.acct_book.specs.Sums.{reserved, left_where, debited, unpaid}
use Rattle.acct_totals.specs.Answers.{outcome_at, free_of}
use Rattle.acct_book.specs.Book.{Opened, Book, given_of, sums_of, totals_of, outcome_of, own_of}
use Rattle.acct_book.specs.Laws.{EachAfter, AnsweredNeverOver}
use Rattle.acct_book.specs.Ledger.{IsSummedFor}
use Rattle.acct_book.proofs.LeftSums.{eq_from}
use Rattle.acct_book.proofs.Pushed.{entry, limit_of}
use Rattle.acct_book.proofs.Step.{outcome_at-moved, IsSummedFor-own, IsSummedFor-other}
use Rattle.acct_book.proofs.LedgerLemmas.{own_of-le}

module _ (accounts : List Opened) (k given : ℕ) (open_at : given_of accounts k ≡ Some given) where
  abbrev book : List Booked → Book
  book past = record { accounts = accounts; journal = past }

  at_start : IsSummedFor k (sums_of given k []) []
  unfolding left_where debited unpaid
  at_start = record { sums = refl; within = omega arith; refunds = omega arith }

  -- the outcome that is allowed on the account
  pub outcome-open : (past : List Booked) (op : Op) → account_of op ≡ k → outcome_of (book past) op ≡ outcome_at (sums_of given k past) (own_of op past) op
  outcome-open past op on =
      ap (λ a. option_map_or (λ t. outcome_at t (own_of op past) op) (totals_of (book past) a) Refused) on
      ∙ ap (λ (g : Option ℕ). option_map_or (λ t. outcome_at t (own_of op past) op) (option_map (λ n. sums_of n k past) g) Refused) open_at

  pub step : (past : List Booked) (op : Op) (o : Outcome) → IsSummedFor k (sums_of given k past) past → o ≡ outcome_of (book past) op
      → IsSummedFor k (sums_of given k (past ++ entry op o ∷ [])) (past ++ entry op o ∷ [])
  step past op o h is = by (account_of op == k) refl
    where
      by : (c : Bool) → (account_of op == k) ≡ c → IsSummedFor k (sums_of given k (past ++ entry op o ∷ [])) (past ++ entry op o ∷ [])
      by true e =
          let on : account_of op ≡ k = eq_from (account_of op) k e in
          let t : Totals = sums_of given k past in
          let part : own_of op past ≤ reserved k past = subst (λ a. own_of op past ≤ reserved a past) on (own_of-le op past) in
          let moved : amount_of o ≤ limit_of (free_of (sums_of given k past)) (own_of op past) (debited k past) op =
          subst (λ (x : Outcome). amount_of x ≤ limit_of (free_of (sums_of given k past)) (own_of op past) (debited k past) op) (sym (is ∙ outcome-open past op on)) (outcome_at-moved (sums_of given k past) (own_of op past) op) in
          let n = IsSummedFor-own k (sums_of given k past) past op o (own_of op past) h e refl part moved in
          subst (λ (x : Totals). IsSummedFor k x (past ++ entry op o ∷ [])) n.sums n
      by false e =
          let n = IsSummedFor-other k (sums_of given k past) past op o 0 h e in
          subst (λ (x : Totals). IsSummedFor k x (past ++ entry op o ∷ [])) n.sums n

  all : (past xs : List Booked) → IsSummedFor k (sums_of given k past) past → EachAfter (λ ys b. b.outcome ≡ outcome_of (book ys) b.op) past xs
      → IsSummedFor k (sums_of given k (past ++ xs)) (past ++ xs)
  all past [] w h = subst (λ ys. IsSummedFor k (sums_of given k ys) ys) (sym (append-nil past)) w
  all past (x ∷ xs) w h =
      subst (λ ys. IsSummedFor k (sums_of given k ys) ys) (append_assoc past (x ∷ []) xs) (all (past ++ x ∷ []) xs (step past x.op x.outcome w h.0) h.1)

pub never_over_from_answered : AnsweredNeverOver
never_over_from_answered accounts journal h k = by (given_of accounts k) refl
  where
    by : (g : Option ℕ) → given_of accounts k ≡ g → IfSome (option_map (λ n. sums_of n k journal) g) (λ t. t.reserved + t.debited ≤ t.given)
    by None e = tt
    by (Some n) e = (all accounts k n e [] journal (at_start accounts k n e) h).within
