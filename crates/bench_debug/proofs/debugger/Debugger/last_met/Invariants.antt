use Rattle.std.proofs.Common.{◌≤◌, drop, length}
use Rattle.bench_debug.specs.Meets.{MeetsNone}
use Rattle.bench_debug.proofs.debugger.Debugger.last_met.Given as goal

-- none of the entries behind the place meets a breakpoint
abbrev pub invariant-entries : goal.invariant-entries
invariant-entries l =
    (l.place ≤ length l.self.core.log) × MeetsNone l.self.progress.set.items (drop l.place l.self.core.log)

abbrev pub decreases-entries : goal.decreases-entries
decreases-entries l = l.place
