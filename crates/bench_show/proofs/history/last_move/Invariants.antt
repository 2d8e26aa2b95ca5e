use Rattle.std.proofs.Common.{◌≤◌, drop, length}
use Rattle.bench_show.specs.History.{MovesNone}
use Rattle.bench_show.proofs.history.last_move.Given as goal

-- none of the entries behind the place moved the machine
abbrev pub invariant-entries : goal.invariant-entries
invariant-entries l = (l.place ≤ length l.core.log) × MovesNone l.key (drop l.place l.core.log)

abbrev pub decreases-entries : goal.decreases-entries
decreases-entries l = l.place
