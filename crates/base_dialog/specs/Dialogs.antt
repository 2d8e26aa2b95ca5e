-- What was answered of a text so far.
use Rattle.std.specs.Prelude.{◌≡◌, ℕ, List, ◌++◌}
use Rattle.base_dialog.specs.Lines.{AreLines, IsCut}
use Rattle.base_dialog.specs.declared.dialog.Dialog.{Dialog}

-- the lines of a text that are ended were answered with that, and a line is begun
pub record HasAnswered {T : Type 0} (has_answered : T → T → List (List ℕ) → List ℕ → Type 0) (start : T)
    (dialog : Dialog T) (text said : List ℕ) : Type 0 where
  pub lines : List (List ℕ)
  pub cut : IsCut text lines dialog.begun.items
  pub answered : has_answered start dialog.answerer lines said

-- all lines of a text were answered with that
pub record HasAnsweredAll {T : Type 0} (has_answered : T → T → List (List ℕ) → List ℕ → Type 0) (start : T)
    (text said : List ℕ) : Type 0 where
  pub lines : List (List ℕ)
  pub are : AreLines text lines
  pub now : T
  pub answered : has_answered start now lines said

-- the lines of a front of a text were answered with that
pub record HasAnsweredFront {T : Type 0} (has_answered : T → T → List (List ℕ) → List ℕ → Type 0) (start : T)
    (text said : List ℕ) : Type 0 where
  pub front : List ℕ
  pub back : List ℕ
  pub split : text ≡ front ++ back
  pub lines : List (List ℕ)
  pub begun : List ℕ
  pub cut : IsCut front lines begun
  pub now : T
  pub answered : has_answered start now lines said
