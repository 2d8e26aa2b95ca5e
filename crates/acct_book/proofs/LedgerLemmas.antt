-- The ledger and the book that it is.
use Rattle.std.proofs.Common.{◌≡◌, ◌≤◌, ℕ, ◌+◌, ◌^◌, List, [], ◌∷◌, ◌++◌, Bool, true, false, true≢false, cond, length, Option, None, Some, refl, sym, ◌∙◌, ap, subst, nat_eq, arith, reverse, map, ◌<◌}
use Rattle.std.specs.Prelude.{◌==◌, if◌then◌else◌, is_some, unwrap_or, IfSome}
use Rattle.std.specs.Option.{option_map, option_map_or}
use Rattle.indexmap.specs.IndexMap.{get}
use Rattle.std.proofs.lemmas.Bool.Decides.{nat_tests}
use Rattle.acct_totals.specs.declared.op.Op.{Op}
use Rattle.acct_totals.specs.declared.op.Op.TheVariants.{Reserve, Debit, Release, Charge, Refund}
use Rattle.acct_totals.specs.declared.op.Outcome.{Outcome}
use Rattle.acct_totals.specs.declared.op.Outcome.TheVariants.{Refused}
use Rattle.acct_totals.specs.declared.op.Booked.{Booked}
use Rattle.acct_totals.specs.declared.answer.Totals.{Totals}
use Rattle.acct_book.specs.declared.ledger.Ledger.{Ledger}
use Rattle.acct_totals.specs.Amounts.{account_of, amount_of, unpaid_of}
use Rattle.acct_book.specs.Sums.{own, reserved, left_where, debited, unpaid}
use Rattle.acct_totals.specs.Answers.{outcome_at, free_of, quote_at, unknown}
use Rattle.acct_book.specs.Book.{own_of, outcome_of, totals_of, given_of, sums_of, refusal_at, refusal_of, quote_of, NeverOver}
use Rattle.acct_totals.specs.Kept.{IsSound, totals_after}
use Rattle.acct_book.specs.Stored.{stored_of, standing, step_of, nothing, CanCarryOut, IsPlaced}
use Rattle.acct_book.specs.declared.holder.Session.{Session}
use Rattle.acct_book.specs.declared.holds.Before.{Before}
use Rattle.acct_book.specs.Ledger.{Accounts, opened_of, book_of, kept, none, held_on, EachBack, IsStored, IsStoredBack, IsKeptFor, IsKept, HasRoom, Settles}
use Rattle.acct_book.proofs.OwnSums.{own-none}
use Rattle.acct_book.proofs.LeftSums.{eq_from}
use Rattle.acct_book.proofs.Pushed.{entry, limit_of, own-le-reserved, own_all-le-reserved, own-le-own_all}
use Rattle.acct_book.proofs.BackLemmas.{each_back-push, each_back-map, stored-top, stored_back-push}
use Rattle.std.specs.Map.{lookup}
use Rattle.acct_book.proofs.Opened.{shown, given-opened_of, length-shown, totals-kept}
use Rattle.acct_book.proofs.Step.{IsWithinLimit, outcome_at-moved, IsKeptFor-own, IsKeptFor-other}

-- no journal, no sums
pub IsKeptFor-start : (a : ℕ) → IsKeptFor a none []
unfolding left_where debited unpaid
IsKeptFor-start a = record { summed = record { sums = refl; within = omega arith; refunds = omega arith }; small = omega arith; few = omega arith }

-- and nothing stored
pub IsStored-start : IsStored nothing []
unfolding left_where
IsStored-start = record {
  own = λ h. sym (own-none h.account h.session h.group);
  total = λ t. refl;
  fresh = λ h. omega arith;
  few = λ t. omega arith;
}

-- the refusal, by what is kept
pub refusal_by : (m : Accounts) (journal : List Booked) (a given : ℕ) → refusal_of (record { accounts = opened_of m; journal = journal }) a given
    ≡ refusal_at (is_some (get nat_eq m a)) given (length m.entries)
refusal_by m journal a given = rw (given-opened_of m a, length-shown m.entries) (by (get nat_eq m a))
  where
    by : (o : Option Totals) → refusal_at (is_some (option_map (λ (t : Totals). t.given) o)) given (length m.entries) ≡ refusal_at (is_some o) given (length m.entries)
    by None = refl
    by (Some t) = refl

-- the reservation that an operation is on is no more than is reserved on its account
pub own_of-le : (op : Op) (xs : List Booked) → own_of op xs ≤ reserved (account_of op) xs
own_of-le (Reserve a s g n) xs = own-le-reserved a s g xs
own_of-le (Debit a s g n) xs = own-le-reserved a s g xs
own_of-le (Release a s) xs = own_all-le-reserved a s xs
own_of-le (Charge a n) xs = omega arith
own_of-le (Refund a n) xs = omega arith

module _ (l : Ledger) (h : IsKept l) where
  -- what is stored are the sums of the journal
  pub IsStored-kept : IsStored (stored_of l.holds) l.journal.items
  IsStored-kept = stored-top (stored_of l.holds) l.journal.items _ h.stored

  -- the reservation that is kept is that of the journal
  pub held_on-own_of : (op : Op) → held_on (stored_of l.holds) op ≡ own_of op l.journal.items
  held_on-own_of (Reserve a s g n) = IsStored-kept.own (record { account = a; session = s; group = g })
  held_on-own_of (Debit a s g n) = IsStored-kept.own (record { account = a; session = s; group = g })
  held_on-own_of (Release a s) = IsStored-kept.total (record { account = a; session = s })
  held_on-own_of (Charge a n) = refl
  held_on-own_of (Refund a n) = refl

  -- the totals that are kept are those of the book
  pub totals_of-book_of : (a : ℕ) → totals_of (book_of l) a ≡ get nat_eq l.accounts a
  totals_of-book_of a = totals-kept l.accounts l.journal.items a (h.totals a)

  pub IsSound-kept : (op : Op) → IsSound (kept l.accounts (account_of op)) (held_on (stored_of l.holds) op)
  IsSound-kept op =
      let k = h.totals (account_of op) in
      let r : (kept l.accounts (account_of op)).reserved ≡ reserved (account_of op) l.journal.items = ap (λ (t : Totals). t.reserved) k.summed.sums in
      let p : held_on (stored_of l.holds) op ≤ reserved (account_of op) l.journal.items = rw (held_on-own_of op) (own_of-le op l.journal.items) in
      record { part = omega arith; within = k.summed.within; small = k.small }

  pub outcome_of-kept : (op : Op) → outcome_of (book_of l) op ≡ option_map_or (λ t. outcome_at t (held_on (stored_of l.holds) op) op) (get nat_eq l.accounts (account_of op)) Refused
  outcome_of-kept op =
      ap (λ o. option_map_or (λ t. outcome_at t (own_of op l.journal.items) op) o Refused) (totals_of-book_of (account_of op))
      ∙ ap (λ x. option_map_or (λ t. outcome_at t x op) (get nat_eq l.accounts (account_of op)) Refused) (sym (held_on-own_of op))

-- the totals that are kept, after those of an open account are written
pub kept-updated : (m n : Accounts) (k : ℕ) (t v : Totals) (f : Totals → Totals) → get nat_eq m k ≡ Some t → v ≡ f t
    → ((q : ℕ) → get nat_eq n q ≡ cond (nat_eq k q) (Some v) (get nat_eq m q)) → (a : ℕ) → kept n a ≡ (if k == a then f (kept m a) else kept m a)
kept-updated m n k t v f open_at is updates a = ap (λ (o : Option Totals). unwrap_or o none) (updates a) ∙ by (k == a) refl
  where
    by : (c : Bool) → (k == a) ≡ c → unwrap_or (cond c (Some v) (get nat_eq m a)) none ≡ (if c then f (kept m a) else kept m a)
    by true e = is ∙ ap f (sym (ap (λ (o : Option Totals). unwrap_or o none) (subst (λ x. get nat_eq m x ≡ Some t) (eq_from k a e) open_at)))
    by false e = refl

-- the outcome moves no more than may be moved
pub IsWithinLimit-kept : (l : Ledger) → IsKept l → (op : Op) (o : Outcome) → o ≡ outcome_of (book_of l) op → unpaid_of o ≤ 2 ^ 64
    → IsWithinLimit (kept l.accounts (account_of op)) (held_on (stored_of l.holds) op) op o
IsWithinLimit-kept l h op o is fits =
    record { moved = by (get nat_eq l.accounts (account_of op)) (is ∙ outcome_of-kept l h op); fits = fits }
  where
    by : (m : Option Totals) → o ≡ option_map_or (λ t. outcome_at t (held_on (stored_of l.holds) op) op) m Refused
        → amount_of o ≤ limit_of (free_of (unwrap_or m none)) (held_on (stored_of l.holds) op) (unwrap_or m none).debited op
    by None e = rw e (omega arith)
    by (Some t) e = rw e (outcome_at-moved t (held_on (stored_of l.holds) op) op)

-- more room changes nothing that is kept
pub IsKept-same : (l n : Ledger) → IsKept l → n.accounts.entries ≡ l.accounts.entries → stored_of n.holds ≡ stored_of l.holds → IsPlaced n.holds
    → n.journal.items ≡ l.journal.items → n.befores.items ≡ l.befores.items → HasRoom n n.room → IsKept n
IsKept-same l n h accounts stored placed journal befores room = record {
  totals = λ a. subst (λ js. IsKeptFor a (kept n.accounts a) js) (sym journal) (subst (λ t. IsKeptFor a t l.journal.items) (sym (same a)) (h.totals a));
  past = λ a. subst (λ js. EachBack (λ ys. IsKeptFor a (sums_of (kept n.accounts a).given a ys) ys) (reverse js)) (sym journal)
      (subst (λ (t : Totals). EachBack (λ ys. IsKeptFor a (sums_of t.given a ys) ys) (reverse l.journal.items)) (sym (same a)) (h.past a));
  stored = subst (λ st. IsStoredBack st (reverse n.journal.items) (reverse n.befores.items)) (sym stored)
      (subst (λ js. IsStoredBack (stored_of l.holds) (reverse js) (reverse n.befores.items)) (sym journal)
      (subst (λ ws. IsStoredBack (stored_of l.holds) (reverse l.journal.items) (reverse ws)) (sym befores) h.stored));
  placed = placed;
  zero = ap (λ (es : List (ℕ × Totals)). given_of (map shown es) 0) accounts ∙ h.zero;
  room = room;
}
  where
    same : (a : ℕ) → kept n.accounts a ≡ kept l.accounts a
    same a = ap (λ (es : List (ℕ × Totals)). unwrap_or (lookup (nat_eq a) es) none) accounts

-- what is kept of an account keeps what it was given
given-settled : (old new : Ledger) (op : Op) (o : Outcome) (w : Option Before) → Settles old op o w new → (a : ℕ) → (kept new.accounts a).given ≡ (kept old.accounts a).given
given-settled old new op o w s a = ap (λ (t : Totals). t.given) (s.totals a) ∙ by (account_of op == a)
  where
    by : (c : Bool) → (if c then totals_after (kept old.accounts a) (held_on (stored_of old.holds) op) op o else kept old.accounts a).given ≡ (kept old.accounts a).given
    by true = refl
    by false = refl

-- one more operation, carried out and booked, keeps the ledger the sums of its journal
pub IsKept-step : (old mid new : Ledger) (op : Op) (o : Outcome) (w : Option Before) → IsKept old → Settles old op o w mid → o ≡ outcome_of (book_of old) op → unpaid_of o ≤ 2 ^ 64
    → new.accounts ≡ mid.accounts → new.holds ≡ mid.holds → new.journal.items ≡ old.journal.items ++ entry op o ∷ [] → new.befores.items ≡ old.befores.items ++ w ∷ [] → HasRoom new new.room → IsKept new
IsKept-step old mid new op o w h s is fits same_accounts same_holds pushed written room = record {
  totals = totals;
  past = λ a.
      let g : (kept new.accounts a).given ≡ (kept old.accounts a).given = ap (λ m. (kept m a).given) same_accounts ∙ given-settled old mid op o w s a in
      let at : EachBack (λ ys. IsKeptFor a (sums_of (kept new.accounts a).given a ys) ys) (reverse old.journal.items) =
      subst (λ n. EachBack (λ ys. IsKeptFor a (sums_of n a ys) ys) (reverse old.journal.items)) (sym g) (h.past a) in
      subst (λ js. EachBack (λ ys. IsKeptFor a (sums_of (kept new.accounts a).given a ys) ys) (reverse js)) (sym pushed)
      (each_back-push (λ ys. IsKeptFor a (sums_of (kept new.accounts a).given a ys) ys) old.journal.items (entry op o) at
      (subst (λ js. IsKeptFor a (sums_of (kept new.accounts a).given a js) js) pushed
      (subst (λ t. IsKeptFor a t new.journal.items) (totals a).summed.sums (totals a))));
  stored =
      subst (λ m. IsStoredBack (stored_of m) (reverse new.journal.items) (reverse new.befores.items)) (sym same_holds)
      (subst (λ st. IsStoredBack st (reverse new.journal.items) (reverse new.befores.items)) (sym s.stored)
      (subst (λ js. IsStoredBack (step_of (stored_of old.holds) op o).0 (reverse js) (reverse new.befores.items)) (sym pushed)
      (subst (λ ws. IsStoredBack (step_of (stored_of old.holds) op o).0 (reverse (old.journal.items ++ entry op o ∷ [])) (reverse ws)) (sym (written ∙ ap (λ x. old.befores.items ++ x ∷ []) s.before_is))
      (stored_back-push (stored_of old.holds) old.journal.items old.befores.items op o h.stored))));
  placed = subst IsPlaced (sym same_holds) s.placed;
  zero = ap (λ m. given_of (opened_of m) 0) same_accounts ∙ ap (λ os. given_of os 0) s.opened ∙ h.zero;
  room = room;
}
  where
    of : (a : ℕ) (c : Bool) → (account_of op == a) ≡ c
        → IsKeptFor a (if c then totals_after (kept old.accounts a) (held_on (stored_of old.holds) op) op o else kept old.accounts a) (old.journal.items ++ entry op o ∷ [])
    of a true e =
        let at : account_of op ≡ a = eq_from (account_of op) a e in
        IsKeptFor-own a (kept old.accounts a) old.journal.items op o (held_on (stored_of old.holds) op) (h.totals a) e (held_on-own_of old h op)
        (subst (λ x. held_on (stored_of old.holds) op ≤ (kept old.accounts x).reserved) at (IsSound-kept old h op).part)
        (subst (λ x. IsWithinLimit (kept old.accounts x) (held_on (stored_of old.holds) op) op o) at (IsWithinLimit-kept old h op o is fits))
    of a false e = IsKeptFor-other a (kept old.accounts a) old.journal.items op o (held_on (stored_of old.holds) op) (h.totals a) e

    totals : (a : ℕ) → IsKeptFor a (kept new.accounts a) new.journal.items
    totals a = subst (λ js. IsKeptFor a (kept new.accounts a) js) (sym pushed)
        (subst (λ t. IsKeptFor a t (old.journal.items ++ entry op o ∷ [])) (sym (ap (λ m. kept m a) same_accounts ∙ s.totals a)) (of a (account_of op == a) refl))

-- an operation on an account that isn't open changes nothing
pub Settles-unknown : (l : Ledger) → IsKept l → (op : Op) → get nat_eq l.accounts (account_of op) ≡ None → Settles l op Refused None l
Settles-unknown l h op absent = record {
  opened = refl;
  totals = λ a. of a (account_of op == a) refl;
  stored = ap (λ r. r.0) (sym (still op no_hold));
  before_is = ap (λ r. r.1) (sym (still op no_hold));
  placed = h.placed;
  journal = refl;
  befores = refl;
  left = refl;
  reservations = omega arith;
  sessions = omega arith;
}
  where
    is_none : kept l.accounts (account_of op) ≡ none
    is_none = ap (λ (o : Option Totals). unwrap_or o none) absent

    no_hold : held_on (stored_of l.holds) op ≡ 0
    no_hold = let s = IsSound-kept l h op in let r : (kept l.accounts (account_of op)).reserved ≡ 0 = ap (λ (t : Totals). t.reserved) is_none in omega (arith, s.part)

    still : (op : Op) → held_on (stored_of l.holds) op ≡ 0 → step_of (stored_of l.holds) op Refused ≡ (stored_of l.holds, None)
    still (Reserve a s g n) e = refl
    still (Debit a s g n) e = rw e refl
    still (Release a s) e = rw e refl
    still (Charge a n) e = refl
    still (Refund a n) e = refl

    stays : (op : Op) → totals_after none 0 op Refused ≡ none
    stays (Reserve a s g n) = refl
    stays (Debit a s g n) = refl
    stays (Release a s) = refl
    stays (Charge a n) = refl
    stays (Refund a n) = refl

    of : (a : ℕ) (c : Bool) → (account_of op == a) ≡ c → kept l.accounts a ≡ (if c then totals_after (kept l.accounts a) (held_on (stored_of l.holds) op) op Refused else kept l.accounts a)
    of a true e =
        let k : kept l.accounts a ≡ none = subst (λ x. kept l.accounts x ≡ none) (eq_from (account_of op) a e) is_none in
        k ∙ sym (stays op) ∙ (λ i. totals_after (sym k i) (sym no_hold i) op Refused)
    of a false e = refl

-- an operation on an account that is open can be carried out
pub CanCarryOut-kept : (l : Ledger) → IsKept l → length l.journal.items < 2 ^ 63 → (op : Op) (t : Totals) → IsSound t (held_on (stored_of l.holds) op) → kept l.accounts (account_of op) ≡ t
    → CanCarryOut (stored_of l.holds) op (outcome_at t (held_on (stored_of l.holds) op) op)
CanCarryOut-kept l h short (Reserve a s g n) t sound is =
    let k : Session = record { account = a; session = s } in
    let st = IsStored-kept l h in
    let o = outcome_at-moved t (held_on (stored_of l.holds) (Reserve a s g n)) (Reserve a s g n) in
    let r : t.reserved ≡ reserved a l.journal.items = ap (λ (x : Totals). x.reserved) (sym is ∙ (h.totals a).summed.sums) in (
      omega (arith, sound.part, sound.within, sound.small, o),
      (omega (arith, st.total k, own_all-le-reserved a s l.journal.items, r, sound.within, sound.small, o), omega (arith, st.few k)),
    )
CanCarryOut-kept l h short (Debit a s g n) t sound is =
    let st = IsStored-kept l h in
    omega (arith, st.own (record { account = a; session = s; group = g }), st.total (record { account = a; session = s }), own-le-own_all a s g l.journal.items)
CanCarryOut-kept l h short (Release a s) t sound is = let f = (IsStored-kept l h).few (record { account = a; session = s }) in omega arith
CanCarryOut-kept l h short (Charge a n) t sound is = tt
CanCarryOut-kept l h short (Refund a n) t sound is = tt

module _ (l : Ledger) (h : IsKept l) where
  -- the quote, by what is kept
  pub quote_of-kept : (a s g used want : ℕ) → quote_of (book_of l) a s g used want
      ≡ option_map_or (λ t. quote_at t (standing (stored_of l.holds) (record { account = a; session = s; group = g })) used want) (get nat_eq l.accounts a) unknown
  quote_of-kept a s g used want =
      ap (λ o. option_map_or (λ t. quote_at t (own a s g l.journal.items) used want) o unknown) (totals_of-book_of l h a)
      ∙ ap (λ x. option_map_or (λ t. quote_at t x used want) (get nat_eq l.accounts a) unknown) (sym ((IsStored-kept l h).own (record { account = a; session = s; group = g })))

  -- of no account is more reserved and debited than was given
  pub NeverOver-kept : NeverOver (book_of l)
  NeverOver-kept a = subst (λ o. IfSome o (λ (t : Totals). t.reserved + t.debited ≤ t.given)) (sym (totals_of-book_of l h a)) (by (get nat_eq l.accounts a) (h.totals a).summed.within)
    where
      by : (o : Option Totals) → (unwrap_or o none).reserved + (unwrap_or o none).debited ≤ (unwrap_or o none).given → IfSome o (λ (t : Totals). t.reserved + t.debited ≤ t.given)
      by None w = tt
      by (Some t) w = w

-- an account that is not refused isn't open
pub fresh_from : (m : Accounts) (journal : List Booked) (a given : ℕ) → refusal_of (record { accounts = opened_of m; journal = journal }) a given ≡ None → get nat_eq m a ≡ None
fresh_from m journal a given h = by (get nat_eq m a) (sym (refusal_by m journal a given) ∙ h)
  where
    by : (o : Option Totals) → refusal_at (is_some o) given (length m.entries) ≡ None → o ≡ None
    by None e = refl
    by (Some t) e = absurd (true≢false (ap is_some e))

-- no account is 0
pub zero-kept : (l : Ledger) → IsKept l → get nat_eq l.accounts 0 ≡ None
zero-kept l h = by (get nat_eq l.accounts 0) (sym (given-opened_of l.accounts 0) ∙ h.zero)
  where
    by : (o : Option Totals) → option_map (λ (t : Totals). t.given) o ≡ None → o ≡ None
    by None e = refl
    by (Some t) e = absurd (true≢false (ap is_some e))

-- an account that is opened has nothing reserved, debited or unpaid, whatever was booked before
pub IsKept-opened : (l n : Ledger) (k given : ℕ) → IsKept l → 1 ≤ k → given ≤ 2 ^ 62 → get nat_eq l.accounts k ≡ None
    → ((q : ℕ) → get nat_eq n.accounts q ≡ cond (nat_eq k q) (Some (record { given = given; reserved = 0; debited = 0; unpaid = 0 })) (get nat_eq l.accounts q))
    → n.holds ≡ l.holds → n.journal ≡ l.journal → n.befores ≡ l.befores → HasRoom n n.room → IsKept n
IsKept-opened l n k given h some small fresh updates same_holds same_journal same_befores room = record {
  totals = λ a. subst (λ js. IsKeptFor a (kept n.accounts a) js) (sym (ap (λ j. j.items) same_journal))
      (subst (λ o. IsKeptFor a (unwrap_or o none) l.journal.items) (sym (updates a)) (of a l.journal.items (nat_eq k a) refl (h.totals a)));
  past = λ a. subst (λ js. EachBack (λ ys. IsKeptFor a (sums_of (kept n.accounts a).given a ys) ys) (reverse js)) (sym (ap (λ j. j.items) same_journal))
      (each_back-map (λ ys. IsKeptFor a (sums_of (kept l.accounts a).given a ys) ys) (λ ys. IsKeptFor a (sums_of (kept n.accounts a).given a ys) ys)
      (λ ys w. subst (λ (o : Option Totals). IsKeptFor a (sums_of (unwrap_or o none).given a ys) ys) (sym (updates a)) (at a ys (nat_eq k a) refl w)) (reverse l.journal.items) (h.past a));
  stored = subst (λ m. IsStoredBack (stored_of m) (reverse n.journal.items) (reverse n.befores.items)) (sym same_holds)
      (subst (λ j. IsStoredBack (stored_of l.holds) (reverse j.items) (reverse n.befores.items)) (sym same_journal)
      (subst (λ ws. IsStoredBack (stored_of l.holds) (reverse l.journal.items) (reverse ws.items)) (sym same_befores) h.stored));
  placed = subst IsPlaced (sym same_holds) h.placed;
  zero = given-opened_of n.accounts 0 ∙ ap (option_map (λ (t : Totals). t.given)) (updates 0 ∙ ap (λ b. cond b (Some new) (get nat_eq l.accounts 0)) off ∙ zero-kept l h);
  room = room;
}
  where
    new : Totals
    new = record { given = given; reserved = 0; debited = 0; unpaid = 0 }

    off : nat_eq k 0 ≡ false
    off = grind (arith, nat_tests)

    of : (a : ℕ) (ys : List Booked) (c : Bool) → nat_eq k a ≡ c → IsKeptFor a (kept l.accounts a) ys
        → IsKeptFor a (unwrap_or (cond c (Some (record { given = given; reserved = 0; debited = 0; unpaid = 0 })) (get nat_eq l.accounts a)) none) ys
    of a ys true e is =
        let is_none : kept l.accounts a ≡ none = ap (λ (o : Option Totals). unwrap_or o none) (subst (λ x. get nat_eq l.accounts x ≡ None) (eq_from k a e) fresh) in
        let w : IsKeptFor a none ys = subst (λ t. IsKeptFor a t ys) is_none is in
        record {
          summed = record { sums = (λ i. record { given = given; reserved = (w.summed.sums i).reserved; debited = (w.summed.sums i).debited; unpaid = (w.summed.sums i).unpaid }); within = omega arith; refunds = w.summed.refunds };
          small = small;
          few = omega arith;
        }
    of a ys false e is = is

    at : (a : ℕ) (ys : List Booked) (c : Bool) → nat_eq k a ≡ c → IsKeptFor a (sums_of (kept l.accounts a).given a ys) ys
        → IsKeptFor a (sums_of (unwrap_or (cond c (Some (record { given = given; reserved = 0; debited = 0; unpaid = 0 })) (get nat_eq l.accounts a)) none).given a ys) ys
    at a ys true e is =
        let g : (kept l.accounts a).given ≡ 0 = ap (λ (o : Option Totals). (unwrap_or o none).given) (subst (λ x. get nat_eq l.accounts x ≡ None) (eq_from k a e) fresh) in
        record {
          summed = record { sums = refl; within = omega (arith, is.summed.within, g); refunds = is.summed.refunds };
          small = small;
          few = is.few;
        }
    at a ys false e is = is
