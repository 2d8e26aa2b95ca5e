use Rattle.std.proofs.Common.{◌≡◌, ◌∙◌, sym, ap, subst, Option, nat_eq, true≢false}
use Rattle.std.specs.Prelude.{unwrap_or, is_some}
use Rattle.std.specs.Option.{option_map_or}
use Rattle.indexmap.specs.IndexMap.{get}
use Rattle.acct_totals.specs.declared.answer.Totals.{Totals}
use Rattle.acct_totals.specs.declared.op.Op.TheVariants.{Debit}
use Rattle.acct_totals.specs.Answers.{quote_at, unknown}
use Rattle.acct_book.specs.Book.{Paged, quote_of}
use Rattle.acct_totals.specs.Kept.{IsSound}
use Rattle.acct_book.specs.Stored.{stored_of, standing}
use Rattle.acct_book.specs.Ledger.{none}
use Rattle.acct_book.proofs.LedgerLemmas.{IsSound-kept, quote_of-kept, zero-kept}
use Rattle.acct_book.proofs.page.Page.quote.Goals as goal

pub returns-in_default-clause-value : goal.returns-in_default-clause-value
returns-in_default-clause-value c =
    let l = c.self.inside.ledger in
    c.of_unknown.ensures ∙ sym (ap (λ (p : Paged). quote_of p.book c.args.account c.args.session c.args.group c.args.used c.args.want) (sym c.self.view_is)
    ∙ quote_of-kept l c.self.invariant c.args.account c.args.session c.args.group c.args.used c.args.want
    ∙ ap (λ (o : Option Totals). option_map_or (λ t. quote_at t (standing (stored_of l.holds) (record { account = c.args.account; session = c.args.session; group = c.args.group })) c.args.used c.args.want) o unknown) (sym c.totals.ensures ∙ c.in_default.is))

pub quote-requires : goal.quote-requires
quote-requires c =
    let l = c.self.inside.ledger in
    let at : unwrap_or (get nat_eq l.accounts c.args.account) none ≡ c.in-Some.totals = ap (λ (o : Option Totals). unwrap_or o none) (sym c.totals.ensures ∙ c.in-Some.is) in
    subst (λ (t : Totals). IsSound t c.held-held.result) at
    (subst (λ n. IsSound (unwrap_or (get nat_eq l.accounts c.args.account) none) n) (sym c.held-held.ensures)
    (IsSound-kept l c.self.invariant (Debit c.args.account c.args.session c.args.group 0)))

pub returns-clause-value : goal.returns-clause-value
returns-clause-value c =
    let l = c.self.inside.ledger in
    c.quote.ensures
    ∙ ap (λ n. quote_at c.in-Some.totals n c.args.used c.args.want) c.held-held.ensures
    ∙ sym (ap (λ (p : Paged). quote_of p.book c.args.account c.args.session c.args.group c.args.used c.args.want) (sym c.self.view_is)
    ∙ quote_of-kept l c.self.invariant c.args.account c.args.session c.args.group c.args.used c.args.want
    ∙ ap (λ (o : Option Totals). option_map_or (λ t. quote_at t (standing (stored_of l.holds) (record { account = c.args.account; session = c.args.session; group = c.args.group })) c.args.used c.args.want) o unknown) (sym c.totals.ensures ∙ c.in-Some.is))

pub returns-clause-zero : goal.returns-clause-zero
returns-clause-zero c = λ e.
    absurd (true≢false (ap is_some (sym c.in-Some.is ∙ c.totals.ensures ∙ ap (get nat_eq c.self.inside.ledger.accounts) e ∙ zero-kept c.self.inside.ledger c.self.invariant)))
