use Rattle.std.proofs.Common.{◌≡◌, ◌++◌, map, take}
use Rattle.bench_open.specs.Given.{opened_as}
use Rattle.bench_script.specs.Ends.{totals_text}
use Rattle.bench_show.proofs.accounts.put_accounts.Given as goal

-- the accounts so far were put
abbrev pub invariant-loop-account : goal.invariant-loop-account
invariant-loop-account l =
    l.out.items
    ≡ l.initial.out.items
    ++ totals_text l.core (map (λ account. account.id) (map opened_as (take l.account-index l.account-items)))
