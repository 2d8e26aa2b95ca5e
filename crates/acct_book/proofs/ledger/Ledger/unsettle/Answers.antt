use Rattle.std.proofs.Common.{◌≡◌, ap, ◌∙◌, sym, refl, map, nat_eq, Some, cond}
use Rattle.indexmap.specs.IndexMap.{get}
use Rattle.acct_totals.specs.declared.answer.Totals.{Totals}
use Rattle.acct_totals.specs.Amounts.{account_of}
use Rattle.acct_totals.specs.Kept.{totals_before}
use Rattle.acct_book.specs.Stored.{stored_of, undone}
use Rattle.acct_book.specs.Ledger.{held_on}
use Rattle.acct_book.proofs.Opened.{shown, shown-insert_entry}
use Rattle.acct_book.proofs.LedgerLemmas.{kept-updated}
use Rattle.acct_book.proofs.TakenBack.{given_before}
use Rattle.acct_book.proofs.ledger.Ledger.unsettle.Goals as goal

pub returns-in-Some : goal.returns-in-Some
returns-in-Some c =
    let m = c.args.self.now.accounts in
    let entries = rw c.unwrap.ensures at c.insert.ensures.entries in
    let updates = rw c.unwrap.ensures at c.insert.ensures.updates in
    let held : c.held_on-held.result ≡ held_on (undone (stored_of c.args.self.now.holds) c.args.op c.args.before) c.args.op =
    c.held_on-held.ensures ∙ ap (λ st. held_on st c.args.op) c.put_back.ensures.stored in
    let open_at : get nat_eq m (account_of c.args.op) ≡ Some c.in-Some.totals = ap (get nat_eq m) (sym c.account.ensures) ∙ sym c.totals.ensures ∙ c.in-Some.is in
    let at : get nat_eq m c.account-in-Some.result ≡ Some c.in-Some.totals = ap (get nat_eq m) c.account-in-Some.ensures ∙ open_at in
    let left : c.before-before.result ≡ totals_before c.in-Some.totals (held_on (undone (stored_of c.args.self.now.holds) c.args.op c.args.before) c.args.op) c.args.op c.args.outcome =
    c.before-before.ensures ∙ ap (λ n. totals_before c.in-Some.totals n c.args.op c.args.outcome) held in
    record {
      unsettles = record {
        undoes = record {
          opened = ap (map shown) entries ∙ shown-insert_entry m.entries c.account-in-Some.result c.in-Some.totals c.before-before.result at (ap (λ (t : Totals). t.given) left ∙ given_before c.in-Some.totals (held_on (undone (stored_of c.args.self.now.holds) c.args.op c.args.before) c.args.op) c.args.op c.args.outcome);
          totals = λ a. kept-updated m c.insert.new.self (account_of c.args.op) c.in-Some.totals c.before-before.result (λ t. totals_before t (held_on (undone (stored_of c.args.self.now.holds) c.args.op c.args.before) c.args.op) c.args.op c.args.outcome)
              open_at left (λ q. updates.0 q ∙ ap (λ x. cond (nat_eq x q) (Some c.before-before.result) (get nat_eq m q)) c.account-in-Some.ensures) a;
          stored = c.put_back.ensures.stored;
          placed = c.put_back.ensures.placed;
        };
        journal = refl;
        befores = refl;
        left = refl;
        reservations = c.put_back.ensures.room.0;
        sessions = c.put_back.ensures.room.1;
      };
    }
