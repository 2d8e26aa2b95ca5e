use Rattle.std.proofs.Common.{◌≡◌, ◌++◌, List}
use Rattle.script_text.specs.declared.run_line.RunLine.{RunLine}
use Rattle.cmd_bench.specs.Told.{RunShown}
use Rattle.cmd_bench.proofs.shown.run_lines.Given as goal

-- the lines that are not left were run
abbrev pub invariant-lines : goal.invariant-lines
invariant-lines g l = record {
  same : l.core.settings ≡ l.initial.core.settings;
  ran : (done : List RunLine) × (done ++ l.left.rest.items ≡ l.fn.lines.items) × RunShown l.initial.core done l.steps l.core l.text.items;
}

-- each turn takes a line
abbrev pub decreases-lines : goal.decreases-lines
decreases-lines g l = l.left.rest.len
