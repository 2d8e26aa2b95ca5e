use Rattle.std.proofs.Common.{◌≡◌, ◌∷◌, ◌∙◌, ℕ, List, [], ap, map, refl, sym}
use Rattle.std.proofs.lemmas.Result.{IfOk-weaker}
use Rattle.acct_book.specs.Book.{Opened}
use Rattle.bench_open.specs.Given.{opened_as}
use Rattle.bench_open.specs.declared.account.Account.{Account}
use Rattle.live_report.proofs.report.ids_of.Goals as goal

-- the numbers of accounts are those with which they are opened
opened_ids : (accounts : List Account) → map (λ (account : Opened). account.id) (map opened_as accounts) ≡ map (λ (account : Account). account.id) accounts
opened_ids [] = refl
opened_ids (account ∷ accounts) = ap (λ (ids : List ℕ). account.id ∷ ids) (opened_ids accounts)

pub returns : goal.returns
returns c =
    IfOk-weaker c.numbers_of.result _ _ (λ numbers is. is ∙ sym (opened_ids c.accounts.result.now) ∙ ap (map (λ (account : Opened). account.id)) c.accounts.ensures) c.numbers_of.ensures
