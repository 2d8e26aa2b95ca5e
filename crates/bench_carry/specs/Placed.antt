-- Timers that can be set again.
use Rattle.std.specs.Prelude.{IsTrue, List}
use Rattle.std.specs.FinSet as set
use Rattle.std.specs.List.{AllByRecursion as Each}
use Rattle.bench_undo.specs.declared.undo.Arrival.TheVariants.{Timer}
use Rattle.bench_undo.specs.declared.undo.Undo.{Undo}
use Rattle.bench_undo.specs.declared.undo.Undo.TheVariants.{Dropped, Fired}
use Rattle.tick_wheel.specs.Timers.{Timers}

-- the wheel has a place for the timer that a record sets again: so that needs no memory
abbrev pub IsPlaced : Timers → Undo → Type 0
IsPlaced wheel (Fired machine old posted) = IsTrue (set.contains wheel.places machine)
IsPlaced wheel (Dropped source (Timer machine old)) = IsTrue (set.contains wheel.places machine)
IsPlaced wheel undo = Unit {0}

-- and for those of all records
abbrev pub ArePlaced : Timers → List Undo → Type 0
ArePlaced wheel undos = Each (IsPlaced wheel) undos
