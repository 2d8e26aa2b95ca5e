-- How many items of each line were lifted.
use Rattle.std.specs.Prelude.{◌≡◌, ℕ, List, length}
use Rattle.bench_item.specs.declared.entry.Entry.{Entry}
use Rattle.bench_item.specs.declared.source.Source.TheVariants.{Line}
use Rattle.bench_line.specs.Line.{LineView}
use Rattle.bench_line.specs.Lines.{lifted_on}
use Rattle.bench_spec.specs.Items.{lifted}

-- of each line as many items were lifted as the log says
abbrev pub IsLiftedSo : List LineView → List Entry → Type 0
IsLiftedSo lines log = (line : ℕ) → lifted_on lines line ≡ length (lifted log (Line line))
