-- One step of a machine by its table.
use Rattle.std.specs.Prelude.{◌≡◌, ℕ, ◌==◌, ◌&&◌, Bool, false, List, [], ◌∷◌, ◌++◌}
use Rattle.std.specs.Prelude.{Option, Some, None, map, filter, slice_index_or}
use Rattle.std.specs.List.{list_all, slice_get, enumerate_from}
use Rattle.std.specs.Option.{option_map, option_map_or}
use Rattle.std.specs.Str.{bytes_eq}
use Rattle.base_codes.specs.DeedCodes.{number_of}
use Rattle.base_codes.specs.declared.deed_code.DeedCode.TheVariants.{Unlisted}
use Rattle.tab_law.specs.Books.{Laws, named_answer, NamedPermits}
use Rattle.tab_law.specs.declared.scene.Scene.{Scene}
use Rattle.tab_law.specs.declared.scene.Deed.{Deed}
use Rattle.tab_text.specs.Contents.{Contents}
use Rattle.tab_text.specs.declared.row.Row.{Row}
use Rattle.tab_step.specs.declared.machine.MachineState.{MachineState}
use Rattle.tab_step.specs.declared.machine.Event.{Event}
use Rattle.tab_step.specs.declared.machine.Stepped.{Stepped}

-- the name of that number in a table's list of names
abbrev pub name_at : List (List ℕ) → ℕ → List ℕ
name_at names number = slice_index_or names number []

-- a row has that state, a kind of that name, and guards that all have the answer yes
abbrev pub matches : Contents → ℕ → (List ℕ → Bool) → (List ℕ → Bool) → Row → Bool
matches table state is_kind answers row =
    (row.state == state) && is_kind (name_at table.kinds row.kind)
    && list_all (λ guard. answers (name_at table.guards guard)) row.guards

-- the first of the rows that match, with its number
abbrev pub pick : Contents → ℕ → (List ℕ → Bool) → (List ℕ → Bool) → Option (ℕ × Row)
pick table state is_kind answers =
    slice_get (filter (λ numbered. matches table state is_kind answers numbered.1) (enumerate_from 0 table.rows)) 0

-- whether a kind of events has that name in the book
abbrev pub is_kind_of : Laws → ℕ → List ℕ → Bool
is_kind_of laws kind name = option_map_or (λ entry. bytes_eq entry.name name) (slice_get laws.kinds kind) false

-- what guards and actions see of these registers and facts
abbrev pub scene_of : List ℕ → List ℕ → Scene
scene_of regs facts = record { regs = regs; facts = facts }

-- the row that takes an event: by the event's kind, and by what the guards answer on the scene at its start
abbrev pub row_taken : Contents → Laws → MachineState → Event → Option (ℕ × Row)
row_taken table laws s e = pick table s.state (is_kind_of laws e.kind) (named_answer laws (scene_of s.regs e.facts))

-- the last member of a chain, or what stood before it
abbrev pub end_of : List ℕ → List (List ℕ) → List ℕ
end_of before [] = before
end_of before (after ∷ chain) = end_of after chain

-- actions run in order, each answering on the registers that the one before left; the chain has each one's registers,
-- and their deeds are joined
abbrev pub Runs : {A : Type 0} → (A → Scene → List ℕ → List Deed → Type 0) → List ℕ → List A → List ℕ → List (List ℕ)
    → List Deed → Type 0
Runs Answers facts [] before [] deeds = deeds ≡ []
Runs Answers facts (action ∷ actions) before (after ∷ chain) deeds =
    (own : List Deed) × (rest : List Deed) × Answers action (scene_of before facts) after own
    × (deeds ≡ own ++ rest)
    × Runs Answers facts actions after chain rest
-- a chain has one member for each action
Runs Answers facts [] before (after ∷ chain) deeds = ⊥
Runs Answers facts (action ∷ actions) before [] deeds = ⊥

-- the deed of an event that no row takes: Unlisted with the event's facts
abbrev pub unlisted : List ℕ → Deed
unlisted facts = record { code = number_of Unlisted; a = facts }

-- what an event leaves by the row that takes it: the row's Next, and what its actions answer
pub record MovesAlong
    (Answers : List ℕ → Scene → List ℕ → List Deed → Type 0) (table : Contents) (s : MachineState) (e : Event)
    (row : Row) (after : MachineState) (chain : List (List ℕ)) (deeds : List Deed) : Type 0 where
  pub state : after.state ≡ row.next
  pub runs : Runs Answers e.facts (map (name_at table.actions) row.actions) s.regs chain deeds
  pub regs : after.regs ≡ end_of s.regs chain

-- what an event leaves that no row takes: all as it was, and one deed, Unlisted
pub record Stays
    (s : MachineState) (e : Event) (after : MachineState) (chain : List (List ℕ)) (deeds : List Deed) : Type 0 where
  pub same : after ≡ s
  pub no_chain : chain ≡ []
  pub one_deed : deeds ≡ unlisted e.facts ∷ []

-- one or the other
abbrev pub MovesBy : (List ℕ → Scene → List ℕ → List Deed → Type 0) → Contents → MachineState → Event → Option (ℕ × Row)
    → MachineState → List (List ℕ) → List Deed → Type 0
MovesBy Answers table s e (Some numbered) after chain deeds = MovesAlong Answers table s e numbered.1 after chain deeds
MovesBy Answers table s e None after chain deeds = Stays s e after chain deeds

-- one move of a machine: actions may choose what their laws permit
abbrev pub Moves : Contents → Laws → MachineState → Event → MachineState → List Deed → Type 0
Moves table laws s e after deeds =
    (chain : List (List ℕ)) × MovesBy (NamedPermits laws) table s e (row_taken table laws s e) after chain deeds

-- one step: the number of the row that takes the event, and a move by that row
pub record IsStep
    (Answers : List ℕ → Scene → List ℕ → List Deed → Type 0) (table : Contents) (laws : Laws) (s : MachineState)
    (e : Event) (stepped : Stepped) : Type 0 where
  pub row : stepped.row ≡ option_map (λ numbered. numbered.0) (row_taken table laws s e)
  pub moves : MovesBy Answers table s e (row_taken table laws s e) stepped.after stepped.chain stepped.deeds
