use Rattle.std.proofs.Common.{◌≡◌, ◌≤◌, ◌==◌, length, take}
use Rattle.std.specs.Prelude.{filter}
use Rattle.bench_item.proofs.peers.count_of.Given as goal

-- how many of those so far
abbrev pub invariant-loop-one : goal.invariant-loop-one
invariant-loop-one l = (l.count ≡ length (filter (λ one. one == l.home) (take l.one-index l.homes))) × (l.count ≤ l.one-index)
