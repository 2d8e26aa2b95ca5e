use Rattle.std.proofs.Common.{◌≡◌, ◌++◌, take}
use Rattle.bench_script.specs.Ends.{totals_text}
use Rattle.bench_script.proofs.ends.put_totals.Given as goal

-- the accounts so far were put
abbrev pub invariant-loop-id : goal.invariant-loop-id
invariant-loop-id l = l.out.items ≡ l.initial.out.items ++ totals_text l.core (take l.id-index l.ids)
