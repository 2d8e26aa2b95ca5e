-- Where a walk through the code stands, and how it has ended.
use Rattle.std.specs.Prelude.{◌≡◌, ℕ, ◌+◌, ◌≤◌, ◌⊎◌, true, List, ◌∷◌, ◌++◌, Option, Some, None, length, map}
use Rattle.base_list.specs.Named.{place_of}
use Rattle.tab_law.specs.Books.{Laws}
use Rattle.tab_law.specs.declared.scene.Scene.{Scene}
use Rattle.tab_step.specs.Moves.{name_at}
use Rattle.tab_asm.specs.Formats.{Instruction, code_of}
use Rattle.tab_asm.specs.Images.{Image}
use Rattle.tab_asm.specs.Paths.{IsPath, Outcome, Taken, Unlisted, end_of, LeadsTo}
use Rattle.tab_load.specs.Faults.{format_of}
use Rattle.tab_load.specs.Code.{is_landing, count_behind}
use Rattle.tab_load.specs.Loading.{Loaded, IsSound, counts_of}
use Rattle.tab_image.specs.RunBy.{says}
use Rattle.tab_image.specs.declared.walk.Walk.{Walk}
use Rattle.tab_image.specs.declared.walk.Ending.{Ending}
use Rattle.tab_image.specs.declared.walk.Ending.TheVariants.{Row, NoRow}

-- these are the places in a book of actions of an image
abbrev pub ArePlaces : Laws → Image → List ℕ → List ℕ → Type 0
ArePlaces laws image actions places =
    map (λ action. place_of (name_at image.actions action) laws.acts) actions ≡ map Some places

-- where a walk stands: at one of the instructions, behind the begin of a row and some actions of it, or where a row may
-- begin; each path from there that ends so is the rest of one from where the walk began
pub record IsAt (laws : Laws) (program : Loaded) (scene : Scene) (walk : Walk) : Type 0 where
  pub instructions : List Instruction
  pub sound : IsSound program.format (counts_of program.image) program.image.code program.image.entries instructions
  pub before : List Instruction
  pub one : Instruction
  pub rest : List Instruction
  pub split : instructions ≡ before ++ one ∷ rest
  pub place : length (code_of (format_of program.format) before) ≡ walk.at
  pub begun : Option ℕ
  pub actions : List ℕ
  pub in_row : (is_landing one ≡ true) ⊎ ((begun ≡ Some walk.row) × (count_behind None before ≡ Some (length actions)))
  pub placed : ArePlaces laws program.image actions walk.acts
  pub leads :
      (path : List Instruction) (outcome : Outcome)
      → IsPath (format_of program.format) program.image.code (says laws program.image scene) walk.at path
      → length path + walk.at ≤ length program.image.code
      → end_of begun actions path ≡ Some outcome
      → LeadsTo (format_of program.format) program.image.code (says laws program.image scene) walk.begin outcome

-- how a walk has ended: by a row whose actions stand at these places of the book, or without a row
abbrev pub IsEnd : Laws → Loaded → Scene → Walk → Ending → Type 0
IsEnd laws program scene walk (Row row next) =
    (actions : List ℕ)
    × LeadsTo (format_of program.format) program.image.code (says laws program.image scene) walk.begin
    (Taken row actions next)
    × ArePlaces laws program.image actions walk.acts
IsEnd laws program scene walk NoRow =
    LeadsTo (format_of program.format) program.image.code (says laws program.image scene) walk.begin Unlisted
