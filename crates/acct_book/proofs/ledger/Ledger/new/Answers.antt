use Rattle.std.proofs.Common.{ℕ, List, [], reverse, sym, subst, ap, nat_eq, arith, map}
use Rattle.std.specs.Prelude.{unwrap_or}
use Rattle.std.specs.Map.{lookup}
use Rattle.acct_totals.specs.declared.op.Booked.{Booked}
use Rattle.acct_totals.specs.declared.answer.Totals.{Totals}
use Rattle.acct_book.specs.Book.{given_of, sums_of}
use Rattle.acct_book.specs.Stored.{Stored, stored_of}
use Rattle.acct_book.specs.Ledger.{none, IsKeptFor, EachBack, IsStoredBack}
use Rattle.acct_book.proofs.Opened.{shown}
use Rattle.acct_book.proofs.LedgerLemmas.{IsKeptFor-start, IsStored-start}
use Rattle.acct_book.proofs.ledger.Ledger.new.Goals as goal

pub returns-clause-kept : goal.returns-clause-kept
returns-clause-kept c = record {
  totals = λ a.
      subst (λ (es : List (ℕ × Totals)). IsKeptFor a (unwrap_or (lookup (nat_eq a) es) none) c.new-3.result.items) (sym c.new.ensures.empty)
      (subst (λ (js : List Booked). IsKeptFor a none js) (sym c.new-3.ensures.items) (IsKeptFor-start a));
  past = λ a.
      subst (λ (es : List (ℕ × Totals)). EachBack (λ ys. IsKeptFor a (sums_of (unwrap_or (lookup (nat_eq a) es) none).given a ys) ys) (reverse c.new-3.result.items)) (sym c.new.ensures.empty)
      (subst (λ (js : List Booked). EachBack (λ ys. IsKeptFor a (sums_of 0 a ys) ys) (reverse js)) (sym c.new-3.ensures.items)
      (subst (λ (t : Totals). IsKeptFor a t []) (IsKeptFor-start a).summed.sums (IsKeptFor-start a)));
  stored =
      subst (λ (js : List Booked). IsStoredBack (stored_of c.new-2.result) (reverse js) (reverse c.new-4.result.items)) (sym c.new-3.ensures.items)
      (subst (λ (st : Stored). IsStoredBack st [] (reverse c.new-4.result.items)) (sym c.new-2.ensures.stored) IsStored-start);
  placed = c.new-2.ensures.placed;
  zero = ap (λ (es : List (ℕ × Totals)). given_of (map shown es) 0) c.new.ensures.empty;
  room = record { entries = omega arith; befores = omega arith; reservations = omega arith; sessions = omega arith };
}
