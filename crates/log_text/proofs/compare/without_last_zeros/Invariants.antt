use Rattle.std.proofs.Common.{◌≡◌, ◌≤◌, length, take}
use Rattle.event_text.specs.Deeds.{without_last_zeros}
use Rattle.log_text.proofs.compare.without_last_zeros.Given as goal

-- only zeros stand behind the end
abbrev pub invariant-loop-end : goal.invariant-loop-end
invariant-loop-end l = (without_last_zeros (take l.end l.values) ≡ without_last_zeros l.values) × (l.end ≤ length l.values)

abbrev pub decreases-loop-end : goal.decreases-loop-end
decreases-loop-end l = l.end
