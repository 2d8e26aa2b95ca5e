-- The lines of a text.
use Rattle.std.specs.Prelude.{◌≡◌, ◌≢◌, ℕ, List, [], ◌∷◌, ◌++◌, All}
use Rattle.std.specs.List.{flat_map}

-- a line, without the newline that ends it
abbrev pub IsLine : List ℕ → Type 0
IsLine line = All (λ c. c ≢ 10) line

-- lines, each with the newline that ends it
abbrev pub ended : List (List ℕ) → List ℕ
ended lines = flat_map (λ line. line ++ 10 ∷ []) lines

-- a text is these lines, each with its newline, and a line that is only begun
pub record IsCut (text : List ℕ) (lines : List (List ℕ)) (begun : List ℕ) : Type 0 where
  pub joined : text ≡ ended lines ++ begun
  pub each : All IsLine lines
  pub line : IsLine begun

-- the last line of a text, which needs no newline
abbrev pub last_line : List ℕ → List (List ℕ)
last_line [] = []
last_line (c ∷ cs) = (c ∷ cs) ∷ []

-- all lines of a text
pub record AreLines (text : List ℕ) (lines : List (List ℕ)) : Type 0 where
  pub whole : List (List ℕ)
  pub begun : List ℕ
  pub cut : IsCut text whole begun
  pub all : lines ≡ whole ++ last_line begun
