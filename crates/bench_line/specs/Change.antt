-- What takes a call back.
use Rattle.std.specs.Prelude.{◌-◌, List, length, take}
use Rattle.bench_line.specs.declared.change.Change.{Change}
use Rattle.bench_line.specs.declared.change.Change.TheVariants.{Nothing, Opened, Lifted, Changed, Undialled}
use Rattle.bench_line.specs.Before.{restored}
use Rattle.bench_line.specs.Dials.{redialled}
use Rattle.bench_line.specs.Line.{LineView}
use Rattle.bench_line.specs.Lines.{unlifted_one, with_line}

-- the lines as they were before the change
abbrev pub taken_back : Change → List LineView → List LineView
taken_back Nothing lines = lines
taken_back Opened lines = take (length lines - 1) lines
taken_back (Lifted line) lines = with_line line unlifted_one lines
taken_back (Changed line before) lines = with_line line (restored before) lines
taken_back (Undialled peer generation states) lines = redialled peer generation states.items lines
