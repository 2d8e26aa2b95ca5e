-- How far a run is, as it is shown.
use Rattle.std.specs.Prelude.{ℕ, List, [], ◌∷◌, ◌++◌, codes, decimal}

-- `1000 of 1000000 lines`, from the first column on
abbrev pub progress_text : (done total : ℕ) → List ℕ
progress_text done total = (13 ∷ []) ++ decimal done ++ codes " of " ++ decimal total ++ codes " lines"
