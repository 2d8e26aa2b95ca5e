-- The records of steps.
use Rattle.std.specs.Prelude.{ℕ, List}
use Rattle.bench_undo.specs.declared.undo.Undo.{Undo}

-- the records in order, and how many more can be put without memory
pub record UndoState : Type 0 where
  pub records : List Undo
  pub room : ℕ
