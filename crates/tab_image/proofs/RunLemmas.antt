use Rattle.std.proofs.Common.{◌≡◌, ℕ, List, [], Option, Some, None, refl, sym, ap, ◌∙◌}
use Rattle.tab_law.specs.Books.{Laws, ActPermits, NamedPermits}
use Rattle.tab_law.specs.declared.scene.Scene.{Scene}
use Rattle.tab_step.specs.Moves.{scene_of, end_of, Runs, Stays}
use Rattle.tab_step.specs.declared.machine.MachineState.{MachineState}
use Rattle.tab_step.specs.declared.machine.Event.{Event}
use Rattle.tab_step.specs.declared.machine.Stepped.{Stepped}
use Rattle.tab_step.proofs.MoveLemmas.{Runs-named}
use Rattle.tab_asm.specs.Paths.{Taken, Unlisted, LeadsTo}
use Rattle.tab_load.specs.Faults.{format_of}
use Rattle.tab_load.specs.Loading.{Loaded, IsLoaded}
use Rattle.tab_image.specs.RunBy.{says, entry_of, Leads, Leaves, IsRunBy}
use Rattle.tab_image.specs.Walks.{ArePlaces, IsAt}
use Rattle.tab_image.specs.declared.walk.Walk.{Walk}
use Rattle.tab_image.proofs.EntryLemmas.{entry-there}
use Rattle.tab_image.proofs.OnceLemmas.{reaches-once}
use Rattle.tab_image.proofs.WalkLemmas.{begins}

-- what an event leaves that its entry leads to is what it leaves by the program
pub runs-by : (laws : Laws) (program : Loaded) (s : MachineState) (e : Event) (stepped : Stepped) (outcome : _) → IsLoaded laws program → Leads program laws s e outcome → Leaves (NamedPermits laws) program.image s e outcome stepped → IsRunBy (NamedPermits laws) program laws s e stepped
runs-by laws program s e stepped outcome loaded reached left = record {
  outcome = outcome;
  reached = reached;
  only = λ other is. reaches-once program.format program.image.code (says laws program.image (scene_of s.regs e.facts)) (entry_of laws program.image s.state e.kind) outcome other loaded.short reached is;
  leaves = left;
}

-- by a row
pub runs-row : (laws : Laws) (program : Loaded) (s : MachineState) (e : Event) (stepped : Stepped) (entry : Option ℕ) (begin row next : ℕ) (actions places : List ℕ) → IsLoaded laws program → entry ≡ entry_of laws program.image s.state e.kind → entry ≡ Some begin → LeadsTo (format_of program.format) program.image.code (says laws program.image (scene_of s.regs e.facts)) begin (Taken row actions next) → ArePlaces laws program.image actions places → stepped.row ≡ Some row → stepped.after.state ≡ next → Runs (ActPermits laws) e.facts places s.regs stepped.chain stepped.deeds → stepped.after.regs ≡ end_of s.regs stepped.chain → IsRunBy (NamedPermits laws) program laws s e stepped
runs-row laws program s e stepped entry begin row next actions places loaded found some to placed row_is state runs regs =
    let reached : Leads program laws s e (Taken row actions next) = rw (← found, some) to in
    runs-by laws program s e stepped (Taken row actions next) loaded reached (record {
      row_is = row_is;
      state = state;
      runs = Runs-named laws program.image.actions e.facts actions places s.regs stepped.chain stepped.deeds placed runs;
      regs = regs;
    })

-- or without one
pub runs-all : (laws : Laws) (program : Loaded) (s : MachineState) (e : Event) (stepped : Stepped) (entry : Option ℕ) (begin : ℕ) → IsLoaded laws program → entry ≡ entry_of laws program.image s.state e.kind → entry ≡ Some begin → LeadsTo (format_of program.format) program.image.code (says laws program.image (scene_of s.regs e.facts)) begin Unlisted → stepped.row ≡ None → Stays s e stepped.after stepped.chain stepped.deeds → IsRunBy (NamedPermits laws) program laws s e stepped
runs-all laws program s e stepped entry begin loaded found some to no_row stays =
    let reached : Leads program laws s e Unlisted = rw (← found, some) to in
    runs-by laws program s e stepped Unlisted loaded reached (record { no_row = no_row; stays = stays })

-- or without an entry
pub runs-none : (laws : Laws) (program : Loaded) (s : MachineState) (e : Event) (stepped : Stepped) (entry : Option ℕ) → IsLoaded laws program → entry ≡ entry_of laws program.image s.state e.kind → entry ≡ None → stepped.row ≡ None → Stays s e stepped.after stepped.chain stepped.deeds → IsRunBy (NamedPermits laws) program laws s e stepped
runs-none laws program s e stepped entry loaded found none no_row stays =
    let reached : Leads program laws s e Unlisted = rw (← found, none) refl in
    runs-by laws program s e stepped Unlisted loaded reached (record { no_row = no_row; stays = stays })

-- a walk begins at the entry of a state and a kind
pub begins-at : (laws : Laws) (program : Loaded) (scene : Scene) (walk : Walk) (entry : Option ℕ) (state kind begin : ℕ) → IsLoaded laws program → entry ≡ entry_of laws program.image state kind → entry ≡ Some begin → walk ≡ record { begin = begin; at = begin; row = 0; acts = [] } → IsAt laws program scene walk
begins-at laws program scene walk entry state kind begin loaded found some is =
    let there = entry-there laws program.image state kind begin (sym found ∙ some) in
    begins laws program scene walk loaded there.0 begin there.1 there.2 (ap (λ (w : Walk). w.begin) is) (ap (λ (w : Walk). w.at) is) (ap (λ (w : Walk). w.acts) is)
