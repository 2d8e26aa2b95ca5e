use Rattle.std.proofs.Common.{◌≡◌, ◌≤◌, length}
use Rattle.bench_debug.specs.Debug.{debugging, gone_back}
use Rattle.bench_debug.proofs.debugger.Debugger.rewind.Given as goal

-- so many steps were taken back that it stands at its place
abbrev pub invariant-steps : goal.invariant-steps
invariant-steps l =
    (length l.self.core.log ≤ length l.initial.self.core.log) × (l.place ≤ length l.self.core.log)
    × (debugging l.self.core l.self.progress ≡ gone_back (debugging l.initial.self.core l.initial.self.progress) (length l.self.core.log))

abbrev pub decreases-steps : goal.decreases-steps
decreases-steps l = length l.self.core.log
