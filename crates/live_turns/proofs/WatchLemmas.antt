-- Sums over accounts, and over those with which they are opened.
use Rattle.std.proofs.Common.{◌≡◌, ◌∙◌, ◌+◌, ◌∷◌, ℕ, List, [], ap, map, refl, sym}
use Rattle.std.specs.Prelude.{sum_by}
use Rattle.std.proofs.lemmas.List.Sums.{sum_by-cons}
use Rattle.acct_book.specs.Book.{Opened}
use Rattle.bench_open.specs.Given.{opened_as}
use Rattle.bench_open.specs.declared.account.Account.{Account}

pub sum_by-opened : (f : ℕ → ℕ) (accounts : List Account)
    → sum_by (λ (account : Account). f account.id) accounts ≡ sum_by (λ (account : Opened). f account.id) (map opened_as accounts)
sum_by-opened f [] = refl
sum_by-opened f (account ∷ accounts) =
    sum_by-cons (λ (a : Account). f a.id) account accounts
    ∙ ap (λ (n : ℕ). f account.id + n) (sum_by-opened f accounts)
    ∙ sym (sum_by-cons (λ (a : Opened). f a.id) (opened_as account) (map opened_as accounts))
