-- What is left of an account while slots are quoted is what the book says once the earlier slots have been served.
use Rattle.std.proofs.Common.{◌≡◌, ◌≤◌, ◌<◌, ◌^◌, ℕ, ◌+◌, ◌-◌, List, [], ◌∷◌, ◌++◌, Bool, true, false, true≢false, map, length, fold, Option, None, Some, refl, sym, ◌∙◌, ap, subst, nat_eq, arith}
use Rattle.std.specs.Prelude.{◌==◌, if◌then◌else◌, nat_le, unwrap_or, IfSome, slice_index_or}
use Rattle.std.specs.Option.{option_map, option_map_or}
use Rattle.std.proofs.lemmas.Bool.Decides.{nat_tests}
use Rattle.indexmap.specs.IndexMap.{get}
use Rattle.acct_totals.specs.declared.op.Op.{Op}
use Rattle.acct_totals.specs.declared.op.Op.TheVariants.{Reserve, Debit}
use Rattle.acct_totals.specs.declared.op.Outcome.{Outcome}
use Rattle.acct_totals.specs.declared.op.Outcome.TheVariants.{Done, Refused}
use Rattle.acct_totals.specs.declared.op.Booked.{Booked}
use Rattle.acct_totals.specs.declared.answer.Totals.{Totals}
use Rattle.acct_totals.specs.declared.answer.Quote.{Quote}
use Rattle.acct_totals.specs.declared.slot.Slot.{Slot}
use Rattle.acct_totals.specs.Amounts.{account_of, amount_of}
use Rattle.acct_totals.specs.Answers.{free_of, offer_of, quote_at, quote_from, outcome_at, unknown}
use Rattle.acct_totals.specs.Answers as answers
use Rattle.acct_totals.specs.Slots.{held_by}
use Rattle.acct_totals.specs.Kept.{totals_after}
use Rattle.acct_book.specs.declared.ledger.Ledger.{Ledger}
use Rattle.acct_book.specs.Sums.{own, reserved, is_same, reserved_where}
use Rattle.acct_book.specs.Book.{Opened, Book, given_of, sums_of, own_of, outcome_of, quote_of, after}
use Rattle.acct_book.specs.Stored.{Stored, stored_of, standing}
use Rattle.acct_book.specs.Slots.{slot_quote, after_slot, quotes_of}
use Rattle.acct_book.specs.Served.{Left, funds_of, quote_in, served, own_after, left_of, unknown_in}
use Rattle.acct_book.specs.Ledger.{book_of, kept, none, IsSummedFor, IsKept}
use Rattle.acct_book.proofs.OwnSums.{own-push_end, own-push_more}
use Rattle.acct_book.proofs.LeftSums.{eq_same}
use Rattle.acct_book.proofs.Pushed.{entry, limit_of, own-le-reserved}
use Rattle.acct_book.proofs.Opened.{given-opened_of}
use Rattle.acct_book.proofs.Step.{outcome_at-moved, IsSummedFor-own}
use Rattle.acct_book.proofs.NeverOver.{step, outcome-open}
use Rattle.acct_book.proofs.LedgerLemmas.{own_of-le, IsStored-kept}

-- what is left is what the book says
pub record IsLeftOf (k given session : ℕ) (left : Left) (b : Book) : Type 0 where
  pub open_at : given_of b.accounts k ≡ Some given
  pub summed : IsSummedFor k (sums_of given k b.journal) b.journal
  pub free : left.free ≡ free_of (sums_of given k b.journal)
  pub own : (g : ℕ) → left.own g ≡ own k session g b.journal

fold-push : {X Y : Type 0} (f : Y → X → Y) (z : Y) (xs : List X) (x : X) → fold f z (xs ++ x ∷ []) ≡ f (fold f z xs) x
fold-push f z [] x = refl
fold-push f z (y ∷ ys) x = fold-push f (f z y) ys x

-- what is free after a Debit
free-debit : (t : Totals) (own k s g used : ℕ) → own ≤ t.reserved → t.reserved + t.debited ≤ t.given
    → free_of (totals_after t own (Debit k s g used) (outcome_at t own (Debit k s g used))) ≡ answers.left_of (own + free_of t) used
free-debit t own k s g used part within = omega arith

-- and after a Reserve of no more than is free
reserve-done : (t : Totals) (own k s g n : ℕ) → n ≤ free_of t → outcome_at t own (Reserve k s g n) ≡ Done n 0
reserve-done t own k s g n few = by (nat_le n (free_of t)) (grind (arith, nat_tests))
  where
    by : (c : Bool) → c ≡ true → (if c then Done n 0 else Refused) ≡ Done n 0
    by true e = refl
    by false e = absurd (true≢false (sym e))

free-reserve : (t : Totals) (own k s g n : ℕ) → t.reserved + t.debited ≤ t.given
    → free_of (totals_after t own (Reserve k s g n) (Done n 0)) ≡ free_of t - n
free-reserve t own k s g n within = omega arith

-- the sums of the journal, after one more operation on the account
stepped : (accounts : List Opened) (k given : ℕ) (open_at : given_of accounts k ≡ Some given) (past : List Booked) (op : Op) → account_of op ≡ k
    → IsSummedFor k (sums_of given k past) past
    → sums_of given k (past ++ entry op (outcome_of (record { accounts = accounts; journal = past }) op) ∷ [])
    ≡ totals_after (sums_of given k past) (own_of op past) op (outcome_at (sums_of given k past) (own_of op past) op)
stepped accounts k given open_at past op on h =
    let t : Totals = sums_of given k past in
    let o : Outcome = outcome_of (record { accounts = accounts; journal = past }) op in
    let is : o ≡ outcome_at (sums_of given k past) (own_of op past) op = outcome-open accounts k given open_at past op on in
    let e : (account_of op == k) ≡ true = subst (λ a. (a == k) ≡ true) (sym on) (eq_same k) in
    let part : own_of op past ≤ reserved k past = subst (λ a. own_of op past ≤ reserved a past) on (own_of-le op past) in
    let moved : amount_of o ≤ limit_of (free_of (sums_of given k past)) (own_of op past) (sums_of given k past).debited op =
    subst (λ (x : Outcome). amount_of x ≤ limit_of (free_of (sums_of given k past)) (own_of op past) (sums_of given k past).debited op) (sym is) (outcome_at-moved (sums_of given k past) (own_of op past) op) in
    let n = IsSummedFor-own k (sums_of given k past) past op o (own_of op past) h e refl part moved in
    sym n.sums ∙ ap (λ (x : Outcome). totals_after (sums_of given k past) (own_of op past) op x) is

module _ (k given session : ℕ) (left : Left) (b : Book) (w : IsLeftOf k given session left b) where
  -- the quote of an open account
  quote-open : (g used want : ℕ) → quote_of b k session g used want ≡ quote_at (sums_of given k b.journal) (own k session g b.journal) used want
  quote-open g used want =
      ap (λ (o : Option ℕ). option_map_or (λ t. quote_at t (own k session g b.journal) used want) (option_map (λ n. sums_of n k b.journal) o) unknown) w.open_at

  funds-is : (slot : Slot) → funds_of left slot ≡ own k session slot.group b.journal + free_of (sums_of given k b.journal)
  funds-is slot = (λ i. w.own slot.group i + w.free i)

  -- the quote out of what is left is the book's
  pub quote_in-left : (slot : Option Slot) → quote_in left slot ≡ slot_quote k session b slot
  quote_in-left None = refl
  quote_in-left (Some slot) = ap (λ n. Some (quote_from n slot.used slot.want)) (funds-is slot) ∙ ap Some (sym (quote-open slot.group slot.used slot.want))

  -- no group has more than was given
  pub funds-left : given ≤ 2 ^ 62 → (slot : Option Slot) → IfSome slot (λ s. funds_of left s < 2 ^ 64)
  funds-left small None = tt
  funds-left small (Some slot) =
      let part : own k session slot.group b.journal ≤ reserved k b.journal = own-le-reserved k session slot.group b.journal in
      let at : funds_of left slot ≡ own k session slot.group b.journal + free_of (sums_of given k b.journal) = funds-is slot in
      omega (arith, w.summed.within)

  -- the two operations by which a slot is served, and the book between them
  abbrev pay_op : Slot → Op
  pay_op slot = Debit k session slot.group slot.used

  abbrev hold_op : Slot → ℕ → Op
  hold_op slot n = Reserve k session slot.group n

  abbrev paid_book : Slot → Book
  paid_book slot = after b (Debit k session slot.group slot.used)

  served-some : (slot : Slot) (n : ℕ) → n ≡ offer_of (funds_of left slot) slot.used slot.want
      → IsLeftOf k given session (served left (Some slot)) (after (after b (Debit k session slot.group slot.used)) (Reserve k session slot.group n))
  served-some slot n is = record {
    open_at = w.open_at;
    summed = second;
    free = sym free;
    own = own_is;
  }
    where
      first : IsSummedFor k (sums_of given k (paid_book slot).journal) (paid_book slot).journal
      first = step b.accounts k given w.open_at b.journal (pay_op slot) (outcome_of b (pay_op slot)) w.summed refl

      second : IsSummedFor k (sums_of given k (after (paid_book slot) (hold_op slot n)).journal) (after (paid_book slot) (hold_op slot n)).journal
      second = step b.accounts k given w.open_at (paid_book slot).journal (hold_op slot n) (outcome_of (paid_book slot) (hold_op slot n)) first refl

      part : own k session slot.group b.journal ≤ reserved k b.journal
      part = own-le-reserved k session slot.group b.journal

      -- what is free once the used units are paid
      paid : free_of (sums_of given k (paid_book slot).journal) ≡ answers.left_of (funds_of left slot) slot.used
      paid =
          ap free_of (stepped b.accounts k given w.open_at b.journal (pay_op slot) refl w.summed)
          ∙ free-debit (sums_of given k b.journal) (own k session slot.group b.journal) k session slot.group slot.used part w.summed.within
          ∙ ap (λ m. answers.left_of m slot.used) (sym (funds-is slot))

      few : n ≤ free_of (sums_of given k (paid_book slot).journal)
      few = omega (arith, is, paid)

      done : outcome_at (sums_of given k (paid_book slot).journal) (own_of (hold_op slot n) (paid_book slot).journal) (hold_op slot n) ≡ Done n 0
      done = reserve-done (sums_of given k (paid_book slot).journal) (own_of (hold_op slot n) (paid_book slot).journal) k session slot.group n few

      free : free_of (sums_of given k (after (paid_book slot) (hold_op slot n)).journal) ≡ (served left (Some slot)).free
      free =
          ap free_of (stepped b.accounts k given w.open_at (paid_book slot).journal (hold_op slot n) refl first)
          ∙ ap (λ (o : Outcome). free_of (totals_after (sums_of given k (paid_book slot).journal) (own_of (hold_op slot n) (paid_book slot).journal) (hold_op slot n) o)) done
          ∙ free-reserve (sums_of given k (paid_book slot).journal) (own_of (hold_op slot n) (paid_book slot).journal) k session slot.group n first.within
          ∙ (λ i. paid i - is i)

      held : outcome_of (paid_book slot) (hold_op slot n) ≡ Done n 0
      held = outcome-open b.accounts k given w.open_at (paid_book slot).journal (hold_op slot n) refl ∙ done

      one_is : (g : ℕ) → is_same k session g k session slot.group ≡ (slot.group == g)
      one_is g = rw (eq_same k, eq_same session) refl

      own_is : (g : ℕ) → (served left (Some slot)).own g ≡ own k session g (after (paid_book slot) (hold_op slot n)).journal
      own_is g =
          by (slot.group == g) refl
          ∙ sym (own-push_more k session g (paid_book slot).journal (entry (hold_op slot n) (outcome_of (paid_book slot) (hold_op slot n))) refl
          ∙ ap (λ (o : Outcome). own k session g (paid_book slot).journal + reserved_where (is_same k session g) (entry (hold_op slot n) o)) held
          ∙ ap (λ (c : Bool). own k session g (paid_book slot).journal + (if c then n else 0)) (one_is g))
        where
          by : (c : Bool) → (slot.group == g) ≡ c
              → (if c then offer_of (funds_of left slot) slot.used slot.want else left.own g) ≡ own k session g (paid_book slot).journal + (if c then n else 0)
          by true e =
              let none : own k session g (paid_book slot).journal ≡ 0 = own-push_end k session g b.journal (entry (pay_op slot) (outcome_of b (pay_op slot))) (one_is g ∙ e) in
              omega (arith, is, none)
          by false e =
              let same : own k session g (paid_book slot).journal ≡ own k session g b.journal + 0 = own-push_more k session g b.journal (entry (pay_op slot) (outcome_of b (pay_op slot))) (one_is g ∙ e) in
              omega (arith, w.own g, same)

  -- what is left once a slot has been served is what the book says then
  pub served-left : (slot : Option Slot) → IsLeftOf k given session (served left slot) (after_slot k session b slot)
  served-left None = w
  served-left (Some slot) =
      served-some slot (quote_of b k session slot.group slot.used slot.want).offer
      (ap (λ (q : Quote). q.offer) (quote-open slot.group slot.used slot.want) ∙ sym (ap (λ m. offer_of m slot.used slot.want) (funds-is slot)))

-- a group's reservation, from the slots and quotes so far
held-served : (left : Left) (slot : Option Slot) (g : ℕ) → held_by g (left.own g) (slot, quote_in left slot) ≡ (served left slot).own g
held-served left None g = refl
held-served left (Some slot) g = refl

-- one more slot, with its quote and with what is free then
pub IsLeftOf-next : (st : Stored) (k given session free : ℕ) (earlier : List (Option Slot × Option Quote)) (b : Book)
    → IsLeftOf k given session (left_of st k session free earlier) b → (slot : Option Slot) (q : Option Quote) (n : ℕ)
    → q ≡ quote_in (left_of st k session free earlier) slot → n ≡ (served (left_of st k session free earlier) slot).free
    → IsLeftOf k given session (left_of st k session n (earlier ++ (slot, q) ∷ [])) (after_slot k session b slot)
IsLeftOf-next st k given session free earlier b w slot q n q_is n_is =
    let left : Left = left_of st k session free earlier in
    let v : IsLeftOf k given session (served (left_of st k session free earlier) slot) (after_slot k session b slot) = served-left k given session (left_of st k session free earlier) b w slot in
    record {
      open_at = v.open_at;
      summed = v.summed;
      free = n_is ∙ v.free;
      own = λ g.
          fold-push (held_by g) (standing st (record { account = k; session = session; group = g })) earlier (slot, q)
          ∙ ap (λ (x : Option Quote). held_by g (own_after st k session earlier g) (slot, x)) q_is
          ∙ held-served (left_of st k session free earlier) slot g
          ∙ v.own g;
    }

-- at the first slot
pub IsLeftOf-start : (l : Ledger) → IsKept l → (k session free : ℕ) (t : Totals) → get nat_eq l.accounts k ≡ Some t → free ≡ free_of t
    → IsLeftOf k t.given session (left_of (stored_of l.holds) k session free []) (book_of l)
IsLeftOf-start l h k session free t is free_is =
    let at : kept l.accounts k ≡ t = ap (λ (o : Option Totals). unwrap_or o none) is in
    let s : IsSummedFor k t l.journal.items = subst (λ (x : Totals). IsSummedFor k x l.journal.items) at (h.totals k).summed in
    record {
      open_at = given-opened_of l.accounts k ∙ ap (option_map (λ (x : Totals). x.given)) is;
      summed = subst (λ (x : Totals). IsSummedFor k x l.journal.items) s.sums s;
      free = free_is ∙ ap free_of s.sums;
      own = λ g. (IsStored-kept l h).own (record { account = k; session = session; group = g });
    }

pub small-kept : (l : Ledger) → IsKept l → (k : ℕ) (t : Totals) → get nat_eq l.accounts k ≡ Some t → t.given ≤ 2 ^ 62
small-kept l h k t is = subst (λ (x : Totals). x.given ≤ 2 ^ 62) (ap (λ (o : Option Totals). unwrap_or o none) is) (h.totals k).small

-- each slot that has a service gets the quote of an unknown account where the account isn't open
pub quotes_of-unknown : (k session : ℕ) (b : Book) → given_of b.accounts k ≡ None → (slots : List (Option Slot)) → quotes_of k session b slots ≡ map unknown_in slots
quotes_of-unknown k session b absent [] = refl
quotes_of-unknown k session b absent (None ∷ slots) = ap (λ (qs : List (Option Quote)). None ∷ qs) (quotes_of-unknown k session b absent slots)
quotes_of-unknown k session b absent (Some slot ∷ slots) =
    let q : quote_of b k session slot.group slot.used slot.want ≡ unknown =
    ap (λ (o : Option ℕ). option_map_or (λ t. quote_at t (own k session slot.group b.journal) slot.used slot.want) (option_map (λ n. sums_of n k b.journal) o) unknown) absent in
    (λ i. Some (q i) ∷ quotes_of-unknown k session (after_slot k session b (Some slot)) absent slots i)

pub absent-kept : (l : Ledger) (k : ℕ) → get nat_eq l.accounts k ≡ None → given_of (book_of l).accounts k ≡ None
absent-kept l k is = given-opened_of l.accounts k ∙ ap (option_map (λ (x : Totals). x.given)) is

-- four slots, one by one
pub four : {X : Type 0} (xs : List X) (d : X) → length xs ≡ 4
    → slice_index_or xs 0 d ∷ slice_index_or xs 1 d ∷ slice_index_or xs 2 d ∷ slice_index_or xs 3 d ∷ [] ≡ xs
four [] d h = absurd (omega (arith, h))
four (a ∷ []) d h = absurd (omega (arith, h))
four (a ∷ b ∷ []) d h = absurd (omega (arith, h))
four (a ∷ b ∷ c ∷ []) d h = absurd (omega (arith, h))
four (a ∷ b ∷ c ∷ e ∷ []) d h = refl
four (a ∷ b ∷ c ∷ e ∷ f ∷ xs) d h = absurd (omega (arith, h))
