-- Entries of steps that handle nothing.
use Rattle.std.specs.Prelude.{ℕ, Option, Some, None}
use Rattle.bench_item.specs.declared.entry.Entry.{Entry}
use Rattle.bench_item.specs.declared.item.Item.{Item}
use Rattle.bench_item.specs.declared.step.Step.{Step}
use Rattle.bench_item.specs.declared.step.Step.TheVariants.{Fired}

-- of a step that carries nothing, and of one that carries an item
abbrev pub bare_entry : Step → Entry
bare_entry step = record { step = step; item = None; handled = None }

abbrev pub carried_entry : Step → Item → Entry
carried_entry step item = record { step = step; item = Some item; handled = None }

-- of a timer that fires
abbrev pub fired_entry : ℕ → ℕ → Option Item → Entry
fired_entry machine generation item = record { step = Fired machine generation; item = item; handled = None }
