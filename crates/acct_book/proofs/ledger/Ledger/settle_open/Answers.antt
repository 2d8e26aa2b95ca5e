use Rattle.std.proofs.Common.{◌≡◌, ap, ◌∙◌, sym, subst, refl, map, nat_eq, Some, cond}
use Rattle.indexmap.specs.IndexMap.{get}
use Rattle.acct_totals.specs.declared.answer.Totals.{Totals}
use Rattle.acct_totals.specs.Amounts.{account_of}
use Rattle.acct_totals.specs.Kept.{totals_after}
use Rattle.acct_book.specs.Stored.{stored_of}
use Rattle.acct_book.specs.Ledger.{held_on}
use Rattle.acct_book.proofs.Opened.{shown, shown-insert_entry}
use Rattle.acct_book.proofs.LedgerLemmas.{kept-updated}
use Rattle.acct_book.proofs.ledger.Ledger.settle_open.Goals as goal

pub returns-clause-settles : goal.returns-clause-settles
returns-clause-settles c =
    let m = c.args.self.now.accounts in
    let entries = rw c.unwrap.ensures at c.insert.ensures.entries in
    let updates = rw c.unwrap.ensures at c.insert.ensures.updates in
    let at : get nat_eq m c.account.result ≡ Some c.args.totals = subst (λ x. get nat_eq m x ≡ Some c.args.totals) (sym c.account.ensures) c.requires.open in
    let left : c.after.result ≡ totals_after c.args.totals (held_on (stored_of c.args.self.now.holds) c.args.op) c.args.op c.outcome-outcome.result =
    c.after.ensures ∙ ap (λ n. totals_after c.args.totals n c.args.op c.outcome-outcome.result) c.held_on-held.ensures in
    record {
      opened = ap (map shown) entries ∙ shown-insert_entry m.entries c.account.result c.args.totals c.after.result at (ap (λ (t : Totals). t.given) left);
      totals = λ a. kept-updated m c.insert.new.self (account_of c.args.op) c.args.totals c.after.result (λ t. totals_after t (held_on (stored_of c.args.self.now.holds) c.args.op) c.args.op c.outcome-outcome.result)
          c.requires.open left (λ q. updates.0 q ∙ ap (λ x. cond (nat_eq x q) (Some c.after.result) (get nat_eq m q)) c.account.ensures) a;
      stored = c.carry_out-before.ensures.stored;
      before_is = c.carry_out-before.ensures.before;
      placed = c.carry_out-before.ensures.placed;
      journal = refl;
      befores = refl;
      left = refl;
      reservations = c.carry_out-before.ensures.room.0;
      sessions = c.carry_out-before.ensures.room.1;
    }
