use Rattle.std.proofs.Common.{◌≡◌, ◌++◌, take}
use Rattle.std.specs.Prelude.{filter}
use Rattle.bench_gather.specs.Checks.{is_on_page}
use Rattle.bench_gather.proofs.pages.add_booked.Given as goal

-- those so far that are on the page
abbrev pub invariant-loop-one : goal.invariant-loop-one
invariant-loop-one l =
    l.all.items ≡ l.initial.all.items ++ filter (is_on_page l.pages l.page) (take l.one-index l.booked)
