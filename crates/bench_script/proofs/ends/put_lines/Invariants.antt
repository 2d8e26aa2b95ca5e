use Rattle.std.proofs.Common.{◌≡◌, ◌++◌}
use Rattle.bench_script.specs.Ends.{lines_to}
use Rattle.bench_script.proofs.ends.put_lines.Given as goal

-- the lines so far were put
abbrev pub invariant-lines : goal.invariant-lines
invariant-lines l = l.out.items ≡ l.initial.out.items ++ lines_to l.core l.line
