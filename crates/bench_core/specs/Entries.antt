-- Entries by what their steps have.
use Rattle.std.specs.Prelude.{None, Option}
use Rattle.bench_item.specs.declared.entry.Entry.{Entry}
use Rattle.bench_item.specs.declared.entry.Handled.{Handled}
use Rattle.bench_item.specs.declared.item.Item.{Item}
use Rattle.bench_item.specs.declared.step.Step.{Step}

-- the entry of a step that carries nothing and moves nothing
abbrev pub bare_entry : Step → Entry
bare_entry step = record { step = step; item = None; handled = None }

-- the entry of a step that carries an item, if there is one
abbrev pub carried_entry : Step → Option Item → Entry
carried_entry step item = record { step = step; item = item; handled = None }

-- the entry of a step with all its parts
abbrev pub whole_entry : Step → Option Item → Option Handled → Entry
whole_entry step item handled = record { step = step; item = item; handled = handled }
