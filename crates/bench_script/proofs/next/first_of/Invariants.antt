use Rattle.std.proofs.Common.{◌≡◌, ◌+◌}
use Rattle.std.specs.Prelude.{find, map}
use Rattle.bench_script.specs.Settled.{carried, is_free, numbered}
use Rattle.bench_script.proofs.next.first_of.Given as goal

-- the first is among the numbers that are left
abbrev pub invariant-numbers : goal.invariant-numbers
invariant-numbers l =
    (find (is_free l.core) (map (carried l.carry) (numbered l.sort l.from l.count))
    ≡ find (is_free l.core) (map (carried l.carry) (numbered l.sort l.number l.left)))
    × (l.number + l.left ≡ l.from + l.count)

-- each turn takes a number
abbrev pub decreases-numbers : goal.decreases-numbers
decreases-numbers l = l.left
