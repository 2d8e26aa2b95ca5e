use Rattle.std.proofs.Common.{◌≡◌, ◌≤◌, ◌-◌, vec_len}
use Rattle.std.specs.List.{AllByRecursion as Each}
use Rattle.bench_setup.proofs.calls.run_by.Given as goal

-- the registries so far have the laws
abbrev pub invariant-registries : goal.invariant-registries
invariant-registries g l = (vec_len l.registries ≤ l.count) × Each (λ r. r.book ≡ l.laws) l.registries.items

abbrev pub decreases-registries : goal.decreases-registries
decreases-registries g l = l.count - vec_len l.registries
