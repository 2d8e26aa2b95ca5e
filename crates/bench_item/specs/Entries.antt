-- The moves of entries.
use Rattle.std.specs.Prelude.{List, [], ◌∷◌, Option, Some}
use Rattle.bench_item.specs.declared.entry.Entry.{Entry}
use Rattle.bench_item.specs.declared.entry.Handled.{Handled}
use Rattle.bench_item.specs.declared.entry.Handled.TheVariants.{Move}
use Rattle.bench_item.specs.declared.entry.Moved.{Moved}

-- the move of a machine in an entry: stale and busy ones have none
abbrev pub moved_in : Entry → List Moved
moved_in e = by e.handled
  where
    by : Option Handled → List Moved
    by (Some (Move moved)) = moved ∷ []
    by handled = []
