use Rattle.std.proofs.Common.{◌≡◌, ◌++◌, List}
use Rattle.script_text.specs.declared.run_line.RunLine.{RunLine}
use Rattle.bench_script.specs.Ran.{Prints, Ran}
use Rattle.bench_script.proofs.script.run_script.Given as goal

-- the lines that are not left were done
abbrev pub invariant-lines : goal.invariant-lines
invariant-lines g l =
    (l.core.settings ≡ l.initial.core.settings)
    × ((done : List RunLine) × (done ++ l.left.rest.items ≡ l.fn.lines.items)
    × Prints (Ran l.initial.core done l.core) l.initial.out.items l.out.items)

-- each turn takes a line
abbrev pub decreases-lines : goal.decreases-lines
decreases-lines g l = l.left.rest.len
