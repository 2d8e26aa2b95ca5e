-- What stands on the accounts of a bench.
use Rattle.std.specs.Prelude.{ℕ, List, map}
use Rattle.bench_script.specs.Ends.{totals_text}
use Rattle.bench_spec.specs.Taken.{Run}

-- of all accounts, in the order in which they were opened
abbrev pub accounts_text : Run → List ℕ
accounts_text run = totals_text run (map (λ account. account.id) run.settings.accounts)
