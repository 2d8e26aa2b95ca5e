use Rattle.std.proofs.Common.{◌≡◌, ◌++◌}
use Rattle.bench_show.specs.Lines.{lines_to}
use Rattle.bench_show.proofs.lines.put_line_states.Given as goal

-- the lines so far were put
abbrev pub invariant-lines : goal.invariant-lines
invariant-lines l = l.out.items ≡ l.initial.out.items ++ lines_to l.core l.line
