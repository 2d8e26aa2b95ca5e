use Rattle.std.proofs.Common.{◌≡◌, false, [], map, take}
use Rattle.bench_item.specs.Past.{any_after}
use Rattle.bench_spec.specs.Opening.{is_bad_account}
use Rattle.bench_open.specs.Given.{opened_as}
use Rattle.bench_open.proofs.accounts.has_bad_account.Given as goal

abbrev pub invariant-loop-i : goal.invariant-loop-i
invariant-loop-i l = any_after (is_bad_account l.pages) [] (map opened_as (take l.i l.accounts)) ≡ false
