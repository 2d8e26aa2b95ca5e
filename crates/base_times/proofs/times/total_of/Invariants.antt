use Rattle.std.proofs.Common.{◌≡◌, ◌≤◌, ◌*◌, ◌^◌, take}
use Rattle.std.specs.Prelude.{sum}
use Rattle.base_times.proofs.times.total_of.Given as goal

abbrev pub invariant-loop-count : goal.invariant-loop-count
invariant-loop-count l = (l.total ≡ sum (take l.count-index l.counts)) × (l.total ≤ l.count-index * 2 ^ 64)
