use Rattle.std.proofs.Common.{◌≡◌, map, take}
use Rattle.bench_open.specs.Given.{opened_as}
use Rattle.bench_start.specs.Starting.{page_at_start}
use Rattle.bench_start.proofs.pages.open_page.Given as goal

abbrev pub invariant-loop-account : goal.invariant-loop-account
invariant-loop-account l = l.page ≡ page_at_start l.count (map opened_as (take l.account-index l.accounts)) l.number
