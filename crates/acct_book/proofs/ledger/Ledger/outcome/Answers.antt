use Rattle.std.proofs.Common.{◌≡◌, ℕ, ap, ◌∙◌, sym, subst, Option, Some, nat_eq}
use Rattle.std.specs.Prelude.{unwrap_or}
use Rattle.std.specs.Option.{option_map_or}
use Rattle.indexmap.specs.IndexMap.{get}
use Rattle.acct_totals.specs.declared.answer.Totals.{Totals}
use Rattle.acct_totals.specs.declared.op.Outcome.TheVariants.{Refused}
use Rattle.acct_totals.specs.Amounts.{account_of}
use Rattle.acct_totals.specs.Answers.{outcome_at}
use Rattle.acct_totals.specs.Kept.{IsSound}
use Rattle.acct_book.specs.Stored.{stored_of}
use Rattle.acct_book.specs.Ledger.{none, held_on}
use Rattle.acct_book.proofs.LedgerLemmas.{IsSound-kept, outcome_of-kept}
use Rattle.acct_book.proofs.ledger.Ledger.outcome.Goals as goal

pub outcome-requires : goal.outcome-requires
outcome-requires c =
    let at : get nat_eq c.args.self.now.accounts (account_of c.args.op) ≡ Some c.in-Some.totals =
    ap (get nat_eq c.args.self.now.accounts) (sym c.account.ensures) ∙ sym c.totals.ensures ∙ c.in-Some.is in
    subst (λ (n : ℕ). IsSound c.in-Some.totals n) (sym c.held_on.ensures)
    (subst (λ (t : Totals). IsSound t (held_on (stored_of c.args.self.now.holds) c.args.op)) (ap (λ (o : Option Totals). unwrap_or o none) at)
    (IsSound-kept c.args.self.now c.requires c.args.op))

pub returns-in-Some : goal.returns-in-Some
returns-in-Some c =
    let at : get nat_eq c.args.self.now.accounts (account_of c.args.op) ≡ Some c.in-Some.totals =
    ap (get nat_eq c.args.self.now.accounts) (sym c.account.ensures) ∙ sym c.totals.ensures ∙ c.in-Some.is in
    c.outcome.ensures.allowed
    ∙ ap (λ (n : ℕ). outcome_at c.in-Some.totals n c.args.op) c.held_on.ensures
    ∙ sym (outcome_of-kept c.args.self.now c.requires c.args.op ∙ ap (λ (o : Option Totals). option_map_or (λ t. outcome_at t (held_on (stored_of c.args.self.now.holds) c.args.op) c.args.op) o Refused) at)

pub returns-in-None : goal.returns-in-None
returns-in-None c =
    sym (outcome_of-kept c.args.self.now c.requires c.args.op
    ∙ ap (λ (o : Option Totals). option_map_or (λ t. outcome_at t (held_on (stored_of c.args.self.now.holds) c.args.op) c.args.op) o Refused)
    (ap (get nat_eq c.args.self.now.accounts) (sym c.account.ensures) ∙ sym c.totals.ensures ∙ c.in-None.is))
