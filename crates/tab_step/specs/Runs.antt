-- Steps one behind the other.
use Rattle.std.specs.Prelude.{ℕ, List, [], ◌∷◌}
use Rattle.tab_law.specs.Books.{Laws}
use Rattle.tab_law.specs.declared.scene.Deed.{Deed}
use Rattle.tab_text.specs.Contents.{Contents}
use Rattle.tab_law.specs.declared.scene.Scene.{Scene}
use Rattle.tab_step.specs.Moves.{Moves, IsStep}
use Rattle.tab_step.specs.declared.machine.MachineState.{MachineState}
use Rattle.tab_step.specs.declared.machine.Event.{Event}
use Rattle.tab_step.specs.declared.machine.Stepped.{Stepped}

-- a run from a first state: events, states and deeds of one length, with one move at each place
abbrev pub IsRun : Contents → Laws → MachineState → List Event → List MachineState → List (List Deed) → Type 0
IsRun table laws s [] [] [] = Unit {0}
IsRun table laws s (e ∷ events) (after ∷ states) (deeds ∷ rest) =
    Moves table laws s e after deeds × IsRun table laws after events states rest
-- lists of different lengths are no run
IsRun table laws s (e ∷ events) [] deeds = ⊥
IsRun table laws s (e ∷ events) (after ∷ states) [] = ⊥
IsRun table laws s [] (after ∷ states) deeds = ⊥
IsRun table laws s [] [] (own ∷ rest) = ⊥

-- the steps of a run, one for each event, each from the state that the one before left
abbrev pub AreSteps :
    (List ℕ → Scene → List ℕ → List Deed → Type 0) → Contents → Laws → MachineState → List Event → List Stepped → Type 0
AreSteps Answers table laws s [] [] = Unit {0}
AreSteps Answers table laws s (e ∷ events) (stepped ∷ steps) =
    IsStep Answers table laws s e stepped × AreSteps Answers table laws stepped.after events steps
AreSteps Answers table laws s [] (stepped ∷ steps) = ⊥
AreSteps Answers table laws s (e ∷ events) [] = ⊥
