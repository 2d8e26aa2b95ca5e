use Rattle.std.proofs.Common.{◌≡◌, ◌<◌, ℕ, None}
use Rattle.tab_load.specs.Faults.{count_fault}
use Rattle.tab_load.proofs.counts.read_counts.Given as goal

abbrev pub invariant-loop-number : goal.invariant-loop-number
invariant-loop-number l = (other : ℕ) → other < l.number → count_fault l.format l.octets other ≡ None
