use Rattle.std.proofs.Common.{◌≡◌}
use Rattle.std.specs.Arc.{arc_value}
use Rattle.bench_live.proofs.live.take_shared.Given as goal

-- what is left to be taken is what was handed in
abbrev pub invariant-loop : goal.invariant-loop
invariant-loop g l =
    (goal.iterator-loop g).can_next l.iterator' × (goal.iterator-loop g).is_finite l.iterator' × (arc_value l.left ≡ arc_value l.fn.shared)
