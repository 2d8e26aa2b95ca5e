use Rattle.std.proofs.Common.{◌-◌, vec_len}
use Rattle.bench_debug.specs.Debug.{Passed, debugging}
use Rattle.bench_debug.proofs.debugger.Debugger.go.Given as goal

-- the steps so far met no breakpoint
abbrev pub invariant-steps : goal.invariant-steps
invariant-steps g l = Passed (debugging l.initial.self.core l.initial.self.progress) (debugging l.self.core l.self.progress)

-- each turn takes a step of the script
abbrev pub decreases-steps : goal.decreases-steps
decreases-steps g l = vec_len l.self.progress.script - l.self.progress.next
