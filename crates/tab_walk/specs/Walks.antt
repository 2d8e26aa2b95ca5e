-- What a walk prints: a table, or its image, stepped over a list of events.
use Rattle.std.specs.Prelude.{◌≡◌, ◌⊎◌, ℕ, Bool, true, false, List, [], ◌∷◌, ◌++◌, is_none}
use Rattle.std.specs.Prelude.{Option, Some, None, codes, decimal, option_map, if◌then◌else◌}
use Rattle.std.specs.List.{flat_map, slice_get}
use Rattle.std.specs.Option.{option_map_or, option_or}
use Rattle.tab_law.specs.Books.{Laws, NamedPermits}
use Rattle.tab_text.specs.Contents.{Contents}
use Rattle.tab_text.specs.Faults.{first_fault}
use Rattle.tab_text.specs.Rows.{table_of}
use Rattle.tab_text.specs.declared.fault.ParseError.{ParseError}
use Rattle.tab_text.specs.declared.fault.ParseError.TheVariants as parsing
use Rattle.tab_text.specs.declared.fault.TextCode.{TextCode}
use Rattle.tab_text.specs.declared.fault.TextCode.TheVariants.{NoHeader, BadByte, EmptyCell, NoRowToContinue, BadName}
use Rattle.tab_text.specs.declared.fault.TextCode.TheVariants.{TooManyRows, TooManyNames, TooManyInRow, TooLong}
use Rattle.tab_text.specs.declared.fault.TextFault.{TextFault}
use Rattle.tab_step.specs.Bind.{IsBoundTo, missing}
use Rattle.tab_step.specs.declared.binding.Unbound.{Unbound}
use Rattle.tab_step.specs.declared.binding.Unbound.TheVariants as binding
use Rattle.tab_step.specs.Moves.{IsStep}
use Rattle.tab_step.specs.declared.machine.Event.{Event}
use Rattle.tab_step.specs.declared.machine.MachineState.{MachineState}
use Rattle.tab_step.specs.declared.machine.Stepped.{Stepped}
use Rattle.tab_load.specs.Loading.{IsLoaded, Loaded}
use Rattle.tab_image.specs.RunBy.{IsRunBy as IsRunByImage}
use Rattle.image_text.specs.Images.{IsImageOf, IsNoImage, refusal_text}
use Rattle.image_text.specs.declared.reading.ImageError.{ImageError}
use Rattle.hex.specs.Hex.{is_hex_digit}
use Rattle.base_text.specs.Digits.{is_blank}
use Rattle.base_device.specs.Devices.{HasWriteCause, TakesWhole}
use Rattle.base_device.specs.declared.status.Status.{Status}
use Rattle.base_device.specs.declared.status.Status.TheVariants as statuses
use Rattle.fault_text.specs.Faults.{bad_text, known_fault, unbound_text}
use Rattle.fault_text.specs.Spots.{unbound_place}
use Rattle.fault_text.specs.declared.spots.RowPlace.{RowPlace}
use Rattle.event_text.specs.Deeds.{deed_line, name_or}
use Rattle.event_text.specs.Events.{bad_line, events_of}
use Rattle.tab_walk.specs.Starts.{from_of, start_of, start_text}
use Rattle.tab_walk.specs.Whys.{changes_text, rows_why}
use Rattle.tab_walk.specs.declared.start.WalkOptions.{WalkOptions}
use Rattle.tab_walk.specs.declared.steps.Rules.{Rules}
use Rattle.tab_walk.specs.declared.steps.Rules.TheVariants as rules

-- the name of a state behind a blank, or its number where there is none
abbrev pub state_text : (names : List (List ℕ)) → ℕ → List ℕ
state_text names state = codes " " ++ name_or (slice_get names state) state

-- the number of the row that took an event, or `-`
abbrev pub row_text : Option ℕ → List ℕ
row_text None = codes " row -"
row_text (Some row) = codes " row " ++ decimal row

-- the name of a kind in the book
abbrev pub kind_text : Laws → ℕ → List ℕ
kind_text laws kind = option_map_or (λ entry. entry.name) (slice_get laws.kinds kind) []

-- `CCA-I Wait Done row 0`, and a line for each deed; the names are those of the states
abbrev pub step_text : (names : List (List ℕ)) → Laws → ℕ → Event → Stepped → List ℕ
step_text names laws before event step =
    kind_text laws event.kind ++ state_text names before ++ state_text names step.after.state ++ row_text step.row
    ++ codes "\n"
    ++ flat_map deed_line step.deeds

-- what is printed of a step
abbrev pub Printing : Type 0
Printing = MachineState → Event → Stepped → List ℕ

-- the step's text, and where it is asked why, the registers that changed and why rows didn't take the event
abbrev pub told_text : (why : Bool) → (names : List (List ℕ)) → (rows : Printing) → Laws → Printing
told_text false names rows laws s e step = step_text names laws s.state e step
told_text true names rows laws s e step =
    step_text names laws s.state e step ++ changes_text s.regs step.after.regs ++ rows s e step

-- why the rows of a table before the one that took the event didn't take it; an image tells no rows
abbrev pub table_rows : Contents → Laws → Printing
table_rows table laws s e step = rows_why table laws s e step.row

abbrev pub image_rows : Printing
image_rows s e step = []

-- the texts of steps, each from where the one before left the machine
abbrev pub steps_text : Printing → MachineState → List Event → List Stepped → List ℕ
steps_text told s (event ∷ events) (step ∷ steps) = told s event step ++ steps_text told step.after events steps
steps_text told s [] steps = []
steps_text told s (event ∷ events) [] = []

-- one step for each event, each from where the one before left the machine
abbrev pub AreSteps :
    (Step : MachineState → Event → Stepped → Type 0) → MachineState → List Event → List Stepped → Type 0
AreSteps Step s [] [] = Unit {0}
AreSteps Step s (event ∷ events) (step ∷ steps) = Step s event step × AreSteps Step step.after events steps
-- lists of different lengths are no run
AreSteps Step s [] (step ∷ steps) = ⊥
AreSteps Step s (event ∷ events) [] = ⊥

-- The text of a machine's run on events from a start, by what is a step of it and what is printed of one.
pub record RunText
    (Step : MachineState → Event → Stepped → Type 0) (told : Printing) (start : MachineState) (events : List Event)
    (text : List ℕ) : Type 0 where
  pub steps : List Stepped
  pub run : AreSteps Step start events steps
  pub printed : text ≡ steps_text told start events steps

-- Memory ran out: the text of a run on the events in front, and then that is told.
pub record HaltText
    (Step : MachineState → Event → Stepped → Type 0) (told : Printing) (start : MachineState) (events : List Event)
    (text : List ℕ) : Type 0 where
  pub front : List Event
  pub back : List Event
  pub shown : List ℕ
  pub split : events ≡ front ++ back
  pub run : RunText Step told start front shown
  pub joined : text ≡ shown ++ codes "no memory\n"

-- a step by the rows of a table, one that the laws permit
abbrev pub StepByRows : Contents → Laws → (MachineState → Event → Stepped → Type 0)
StepByRows table laws = IsStep (NamedPermits laws) table laws

-- a step by a loaded image, likewise
abbrev pub StepByImage : Loaded → Laws → (MachineState → Event → Stepped → Type 0)
StepByImage program laws = IsRunByImage (NamedPermits laws) program laws

-- what is refused of a machine whose states have these names: where it is asked to begin, a line that is no event
abbrev pub run_refusal : (names : List (List ℕ)) → Laws → WalkOptions → (events : List ℕ) → Option (List ℕ)
run_refusal names laws options events =
    option_or (if is_none (start_of names (from_of options)) then Some start_text else None)
    (option_map (bad_text laws) (bad_line laws events))

-- what is printed of a run, with which status: its text, whole or up to where memory ran out
abbrev pub IsRunFrom : (Step : MachineState → Event → Stepped → Type 0) → Printing → MachineState → List Event
    → (text : List ℕ) → Status → Type 0
IsRunFrom Step told start events text statuses.Done = RunText Step told start events text
IsRunFrom Step told start events text statuses.NoMemory = HaltText Step told start events text
IsRunFrom Step told start events text other = ⊥

-- a refusal with this text, if memory wasn't what lacked
abbrev pub IsRefused : Option (List ℕ) → (text : List ℕ) → Status → Type 0
IsRefused wanted text status =
    ((wanted ≡ Some text) × (status ≡ statuses.Refused)) ⊎ ((text ≡ codes "no memory\n") × (status ≡ statuses.NoMemory))

-- what is printed of a machine, with which status: what is refused, or a run on the events of a text
abbrev pub IsRunOver : (Step : MachineState → Event → Stepped → Type 0) → Printing → (names : List (List ℕ)) → Laws
    → WalkOptions → (events text : List ℕ) → Status → Type 0
IsRunOver Step told names laws options events text status =
    IsRefused (run_refusal names laws options events) text status
    ⊎ ((run_refusal names laws options events ≡ None)
    × (start : MachineState)
    × (start_of names (from_of options) ≡ Some start)
    × IsRunFrom Step told start (events_of laws events) text status)

-- what a text without a header is not
unfoldable pub neither : TextCode → List ℕ
neither NoHeader = codes "  neither a table nor an image, which begins with a hexadecimal digit\n"
neither BadByte = []
neither EmptyCell = []
neither NoRowToContinue = []
neither BadName = []
neither TooManyRows = []
neither TooManyNames = []
neither TooManyInRow = []
neither TooLong = []

-- the first fault of a table's text, and what a text without a header is not
abbrev pub table_text : Laws → (table : List ℕ) → TextFault → List ℕ
table_text laws table fault = known_fault laws table fault ++ neither fault.code

-- what is refused of a table's text before a machine stands: a fault, a name that the book lacks
abbrev pub table_refusal : Laws → List ℕ → Option (List ℕ)
table_refusal laws table =
    option_or (option_map (table_text laws table) (first_fault table))
    (option_map (unbound_text laws (unbound_place laws (table_of table))) (slice_get (missing laws (table_of table)) 0))

-- what is printed of a table's text, with which status: that, or what is printed of its machine
abbrev pub IsWalked : Laws → WalkOptions → (table events text : List ℕ) → Status → Type 0
IsWalked laws options table events text status =
    IsRefused (table_refusal laws table) text status
    ⊎ ((table_refusal laws table ≡ None)
    × IsRunOver (StepByRows (table_of table) laws)
    (told_text options.why (table_of table).states (table_rows (table_of table) laws) laws) (table_of table).states laws
    options events text status)

-- the same of an image's text: why it gives no program, or what is printed of the program's machine
abbrev pub IsImageWalked : Laws → WalkOptions → (image events text : List ℕ) → Status → Type 0
IsImageWalked laws options image events text status =
    ((error : ImageError) × IsNoImage laws image error × IsRefused (refusal_text error) text status)
    ⊎ ((program : Loaded) × IsImageOf laws image program
    × IsRunOver (StepByImage program laws) (told_text options.why program.image.states image_rows laws)
    program.image.states laws options events text status)

-- the text of a refused table, if memory wasn't what lacked
abbrev pub parse_text : Laws → (table : List ℕ) → ParseError → Option (List ℕ)
parse_text laws table parsing.NoMemory = None
parse_text laws table (parsing.Fault fault) = Some (table_text laws table fault)

-- the text of a table that isn't bound, likewise
abbrev pub bind_text : Laws → Option RowPlace → Unbound → Option (List ℕ)
bind_text laws place binding.NoMemory = None
bind_text laws place (binding.Missing name) = Some (unbound_text laws place name)

-- a text is that of an image where its first character that is no blank is a hexadecimal digit; no table's text begins
-- so
abbrev pub is_image : List ℕ → Bool
is_image [] = false
is_image (c ∷ text) = if is_blank c then is_image text else is_hex_digit c

-- what is printed of either
abbrev pub IsWalkedOf : (image : Bool) → Laws → WalkOptions → (input events text : List ℕ) → Status → Type 0
IsWalkedOf true laws options input events text status = IsImageWalked laws options input events text status
IsWalkedOf false laws options input events text status = IsWalked laws options input events text status

-- what a machine is stepped by is bound to the book, or loaded with it
abbrev pub IsReady : Laws → Rules → Type 0
IsReady laws (rules.Rows bound) = IsBoundTo bound.now laws
IsReady laws (rules.Image program) = IsLoaded laws program.now

-- a step of it
abbrev pub StepBy : Laws → Rules → (MachineState → Event → Stepped → Type 0)
StepBy laws (rules.Rows bound) = StepByRows bound.now.table laws
StepBy laws (rules.Image program) = StepByImage program.now laws

-- the names of its states
abbrev pub names_of : Rules → List (List ℕ)
names_of (rules.Rows bound) = bound.now.table.states
names_of (rules.Image program) = program.now.image.states

-- why its rows didn't take an event
abbrev pub rows_of : Laws → Rules → Printing
rows_of laws (rules.Rows bound) = table_rows bound.now.table laws
rows_of laws (rules.Image program) = image_rows

-- what is printed of a step of it
abbrev pub told_of : (why : Bool) → Laws → Rules → Printing
told_of why laws rules = told_text why (names_of rules) (rows_of laws rules) laws

-- what is printed of it
abbrev pub IsRunBy : Laws → Rules → WalkOptions → (events text : List ℕ) → Status → Type 0
IsRunBy laws rules options events text status =
    IsRunOver (StepBy laws rules) (told_of options.why laws rules) (names_of rules) laws options events text status

-- A text that has this status was taken whole, and the status is the answer.
pub record TakesText
    {O : Type 0} (contents : O → Option (List ℕ)) (failures idle : O → ℕ) (Text : List ℕ → Status → Type 0)
    (old new : O) (answer : Status) : Type 0 where
  pub text : List ℕ
  pub is : Text text answer
  pub taken : TakesWhole contents failures idle old new text

-- the same, or a write fault came and is the answer
abbrev pub IsToldWith : {O : Type 0} → (contents : O → Option (List ℕ)) → (failures idle : O → ℕ)
    → (Text : List ℕ → Status → Type 0) → (old new : O) → Status → Type 0
IsToldWith contents failures idle Text old new answer =
    TakesText contents failures idle Text old new answer
    ⊎ (HasWriteCause failures idle old new × (answer ≡ statuses.Fault))

-- what is printed of a table or an image was taken whole, or a write fault came
abbrev pub IsWalkedOn : {O : Type 0} → (contents : O → Option (List ℕ)) → (failures idle : O → ℕ) → Laws → WalkOptions
    → (table events : List ℕ) → (old new : O) → Status → Type 0
IsWalkedOn contents failures idle laws options table events old new answer =
    IsToldWith contents failures idle (IsWalkedOf (is_image table) laws options table events) old new answer
