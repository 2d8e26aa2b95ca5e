use Rattle.std.proofs.Common.{◌-◌, ◌≤◌, length, vec_len}
use Rattle.bench_debug.specs.Debug.{Forward, debugging}
use Rattle.bench_debug.proofs.debugger.Debugger.go_on.Given as goal

-- the steps so far are those that the script asked for, and do not go past the place
abbrev pub invariant-steps : goal.invariant-steps
invariant-steps g l =
    Forward (debugging l.initial.self.core l.initial.self.progress) (debugging l.self.core l.self.progress) (length l.self.core.log - length l.initial.self.core.log)
    × (length l.self.core.log ≤ l.place)

abbrev pub decreases-steps : goal.decreases-steps
decreases-steps g l = vec_len l.self.progress.script - l.self.progress.next
