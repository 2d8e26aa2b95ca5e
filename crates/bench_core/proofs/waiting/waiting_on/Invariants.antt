use Rattle.std.proofs.Common.{◌≡◌, ◌++◌, drop}
use Rattle.bench_core.specs.Waiting.{put_out_on, waiting_on}
use Rattle.bench_core.proofs.waiting.waiting_on.Given as goal

abbrev pub invariant-loop-place : goal.invariant-loop-place
invariant-loop-place l = l.items.items ++ drop l.place (put_out_on l.lines.lines l.line) ≡ waiting_on l.lines.lines l.line
