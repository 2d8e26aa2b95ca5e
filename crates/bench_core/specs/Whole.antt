-- A world is whole: its log is legal, its parts are what the log says, and each step can be taken back.
use Rattle.std.specs.Prelude.{◌≡◌, List, [], ◌∷◌, ◌++◌}
use Rattle.bench_item.specs.declared.entry.Entry.{Entry}
use Rattle.bench_spec.specs.Legal.{IsLegal}
use Rattle.bench_spec.specs.Settings.{Settings}
use Rattle.bench_undo.specs.declared.undo.Undo.{Undo}
use Rattle.bench_views.specs.Stored.{IsTied, Stored}
pub use Rattle.bench_carry.specs.Parts.{MayUndo}
use Rattle.bench_carry.specs.Undone.{undone}

-- The parts at each place of a log, backwards: those at the last place are what the whole log says,
-- and the last record takes them to those before it.
pub data CanGoBack (settings : Settings) : List Undo → List Entry → Stored → Type 0 where
  AtStart : (s : Stored) → IsTied settings [] s → CanGoBack settings [] [] s
  Behind :
      (undos : List Undo) (log : List Entry) (old new : Stored) (undo : Undo) (e : Entry) (all : List Undo)
      (whole : List Entry)
      → CanGoBack settings undos log old
      → IsTied settings whole new
      → MayUndo undo new
      → undone undo new ≡ old
      → all ≡ undos ++ undo ∷ []
      → whole ≡ log ++ e ∷ []
      → CanGoBack settings all whole new

pub record IsWhole (settings : Settings) (log : List Entry) (s : Stored) (undos : List Undo) : Type 0 where
  pub legal : IsLegal settings log
  pub tied : IsTied settings log s
  pub back : CanGoBack settings undos log s
