use Rattle.std.proofs.Common.{◌≡◌, ap, ◌∙◌, sym, subst, Option, None, Some, nat_eq}
use Rattle.std.specs.Prelude.{unwrap_or}
use Rattle.std.specs.Option.{option_map_or}
use Rattle.indexmap.specs.IndexMap.{get}
use Rattle.acct_totals.specs.declared.answer.Totals.{Totals}
use Rattle.acct_totals.specs.declared.op.Outcome.TheVariants.{Refused}
use Rattle.acct_totals.specs.Amounts.{account_of}
use Rattle.acct_totals.specs.Answers.{outcome_at}
use Rattle.acct_totals.specs.Kept.{IsSound}
use Rattle.acct_book.specs.Stored.{stored_of}
use Rattle.acct_book.specs.Ledger.{none, held_on}
use Rattle.acct_book.proofs.LedgerLemmas.{IsSound-kept, CanCarryOut-kept, outcome_of-kept, Settles-unknown}
use Rattle.acct_book.proofs.ledger.Ledger.settle.Goals as goal

pub settle_open-requires-clause-sound : goal.settle_open-requires-clause-sound
settle_open-requires-clause-sound c =
    let at : get nat_eq c.args.self.now.accounts (account_of c.args.op) ≡ Some c.in-Some.totals =
    ap (get nat_eq c.args.self.now.accounts) (sym c.account.ensures) ∙ sym c.totals.ensures ∙ c.in-Some.is in
    subst (λ (t : Totals). IsSound t (held_on (stored_of c.args.self.now.holds) c.args.op)) (ap (λ (o : Option Totals). unwrap_or o none) at)
    (IsSound-kept c.args.self.now c.requires.kept c.args.op)

pub settle_open-requires-clause-can : goal.settle_open-requires-clause-can
settle_open-requires-clause-can c =
    let at : get nat_eq c.args.self.now.accounts (account_of c.args.op) ≡ Some c.in-Some.totals =
    ap (get nat_eq c.args.self.now.accounts) (sym c.account.ensures) ∙ sym c.totals.ensures ∙ c.in-Some.is in
    CanCarryOut-kept c.args.self.now c.requires.kept c.requires.few c.args.op c.in-Some.totals (settle_open-requires-clause-sound c)
    (ap (λ (o : Option Totals). unwrap_or o none) at)

pub returns-in-Some-clause-outcome : goal.returns-in-Some-clause-outcome
returns-in-Some-clause-outcome c =
    let at : get nat_eq c.args.self.now.accounts (account_of c.args.op) ≡ Some c.in-Some.totals =
    ap (get nat_eq c.args.self.now.accounts) (sym c.account.ensures) ∙ sym c.totals.ensures ∙ c.in-Some.is in
    c.settle_open.ensures.outcome
    ∙ sym (outcome_of-kept c.args.self.now c.requires.kept c.args.op ∙ ap (λ (o : Option Totals). option_map_or (λ t. outcome_at t (held_on (stored_of c.args.self.now.holds) c.args.op) c.args.op) o Refused) at)

absent : (c : goal.In-None) → get nat_eq c.args.self.now.accounts (account_of c.args.op) ≡ None
absent c = ap (get nat_eq c.args.self.now.accounts) (sym c.account.ensures) ∙ sym c.totals.ensures ∙ c.in-None.is

pub returns-in-None-clause-outcome : goal.returns-in-None-clause-outcome
returns-in-None-clause-outcome c =
    sym (outcome_of-kept c.args.self.now c.requires.kept c.args.op ∙ ap (λ (o : Option Totals). option_map_or (λ t. outcome_at t (held_on (stored_of c.args.self.now.holds) c.args.op) c.args.op) o Refused) (absent c))

pub returns-in-None-clause-settles : goal.returns-in-None-clause-settles
returns-in-None-clause-settles c = Settles-unknown c.args.self.now c.requires.kept c.args.op (absent c)
