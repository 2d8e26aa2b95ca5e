-- One step of a machine by an image.
use Rattle.std.specs.Prelude.{◌≡◌, ℕ, ◌+◌, ◌*◌, Bool, nat_lt, List, Option, Some, None, length}
use Rattle.std.specs.Prelude.{map, position, slice_index_or, option_and_then, if◌then◌else◌}
use Rattle.tab_law.specs.Books.{Laws, named_answer}
use Rattle.tab_law.specs.declared.scene.Scene.{Scene}
use Rattle.tab_law.specs.declared.scene.Deed.{Deed}
use Rattle.tab_step.specs.Moves.{name_at, is_kind_of, scene_of, end_of, Runs, Stays}
use Rattle.tab_step.specs.declared.machine.MachineState.{MachineState}
use Rattle.tab_step.specs.declared.machine.Event.{Event}
use Rattle.tab_step.specs.declared.machine.Stepped.{Stepped}
use Rattle.tab_asm.specs.Images.{Image}
use Rattle.tab_asm.specs.Paths.{Outcome, Taken, Unlisted, Reaches}
use Rattle.tab_load.specs.Faults.{format_of}
use Rattle.tab_load.specs.Loading.{Loaded}

-- the number in an image of the kind of events at that place of a book, by its name
abbrev pub number_of : Laws → Image → ℕ → Option ℕ
number_of laws image kind = position (is_kind_of laws kind) image.kinds

-- where the code of the rows of a state and a kind begins: nowhere where the image lacks the state, the kind or such
-- rows
abbrev pub entry_of : Laws → Image → ℕ → ℕ → Option ℕ
entry_of laws image state kind =
    if nat_lt state (length image.states) then option_and_then
    (λ number. slice_index_or image.entries (state * length image.kinds + number) None) (number_of laws image kind)
    else None

-- what a guard of an image answers on a scene, by its name
abbrev pub says : Laws → Image → Scene → ℕ → Bool
says laws image scene guard = named_answer laws scene (name_at image.guards guard)

-- what an event leaves by a row: its actions run in order, by their names in the image, and the state is its Next
pub record LeavesRow
    (Answers : List ℕ → Scene → List ℕ → List Deed → Type 0) (image : Image) (s : MachineState) (e : Event) (row : ℕ)
    (actions : List ℕ) (next : ℕ) (stepped : Stepped) : Type 0 where
  pub row_is : stepped.row ≡ Some row
  pub state : stepped.after.state ≡ next
  pub runs : Runs Answers e.facts (map (name_at image.actions) actions) s.regs stepped.chain stepped.deeds
  pub regs : stepped.after.regs ≡ end_of s.regs stepped.chain

-- what an event leaves without a row: all as it was, and one deed, Unlisted
pub record LeavesAll (s : MachineState) (e : Event) (stepped : Stepped) : Type 0 where
  pub no_row : stepped.row ≡ None
  pub stays : Stays s e stepped.after stepped.chain stepped.deeds

-- one or the other
abbrev pub Leaves :
    (List ℕ → Scene → List ℕ → List Deed → Type 0) → Image → MachineState → Event → Outcome → Stepped → Type 0
Leaves Answers image s e (Taken row actions next) stepped = LeavesRow Answers image s e row actions next stepped
Leaves Answers image s e Unlisted stepped = LeavesAll s e stepped

-- what the entry of an event leads to in a program, by what the guards say on the scene at the event's start
abbrev pub Leads : Loaded → Laws → MachineState → Event → Outcome → Type 0
Leads program laws s e outcome =
    Reaches (format_of program.format) program.image.code (says laws program.image (scene_of s.regs e.facts))
    (entry_of laws program.image s.state e.kind) outcome

-- one step by a program: its entry leads to one outcome and to no other, and that is what the event leaves
pub record IsRunBy
    (Answers : List ℕ → Scene → List ℕ → List Deed → Type 0) (program : Loaded) (laws : Laws) (s : MachineState)
    (e : Event) (stepped : Stepped) : Type 0 where
  pub outcome : Outcome
  pub reached : Leads program laws s e outcome
  pub only : (other : Outcome) → Leads program laws s e other → other ≡ outcome
  pub leaves : Leaves Answers program.image s e outcome stepped
