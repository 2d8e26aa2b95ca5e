use Rattle.std.proofs.Common.{◌≡◌, ℕ, List, [], ◌∷◌, ◌++◌, refl, map}
use Rattle.tab_law.specs.Books.{Laws, NamedPermits}
use Rattle.tab_law.specs.declared.scene.Scene.{Scene}
use Rattle.tab_law.specs.declared.scene.Deed.{Deed}
use Rattle.tab_text.specs.Contents.{Contents}
use Rattle.tab_step.specs.Moves.{IsStep}
use Rattle.tab_step.specs.Runs.{IsRun, AreSteps}
use Rattle.tab_step.specs.declared.machine.MachineState.{MachineState}
use Rattle.tab_step.specs.declared.machine.Event.{Event}
use Rattle.tab_step.specs.declared.machine.Stepped.{Stepped}

-- where the last of the steps leaves the machine
abbrev pub last_state : MachineState → List Stepped → MachineState
last_state s [] = s
last_state s (stepped ∷ steps) = last_state stepped.after steps

pub last_state-more : (s : MachineState) (steps : List Stepped) (stepped : Stepped) → last_state s (steps ++ stepped ∷ []) ≡ stepped.after
last_state-more s [] stepped = refl
last_state-more s (x ∷ steps) stepped = last_state-more x.after steps stepped

-- steps go on by one more
pub AreSteps-more : (Answers : List ℕ → Scene → List ℕ → List Deed → Type 0) (table : Contents) (laws : Laws) (s : MachineState) (events : List Event) (steps : List Stepped) (e : Event) (stepped : Stepped) → AreSteps Answers table laws s events steps → IsStep Answers table laws (last_state s steps) e stepped → AreSteps Answers table laws s (events ++ e ∷ []) (steps ++ stepped ∷ [])
AreSteps-more Answers table laws s [] [] e stepped r m = (m, tt)
AreSteps-more Answers table laws s [] (x ∷ steps) e stepped r m = absurd r
AreSteps-more Answers table laws s (x ∷ events) [] e stepped r m = absurd r
AreSteps-more Answers table laws s (x ∷ events) (y ∷ steps) e stepped r m = (r.0, AreSteps-more Answers table laws y.after events steps e stepped r.1 m)

-- steps that the laws permit are a run
pub AreSteps-run : (table : Contents) (laws : Laws) (s : MachineState) (events : List Event) (steps : List Stepped) → AreSteps (NamedPermits laws) table laws s events steps → IsRun table laws s events (map (λ (step : Stepped). step.after) steps) (map (λ (step : Stepped). step.deeds) steps)
AreSteps-run table laws s [] [] r = tt
AreSteps-run table laws s [] (x ∷ steps) r = absurd r
AreSteps-run table laws s (e ∷ events) [] r = absurd r
AreSteps-run table laws s (e ∷ events) (x ∷ steps) r =
    ((x.chain, r.0.moves), AreSteps-run table laws x.after events steps r.1)
