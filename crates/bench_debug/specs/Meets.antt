-- Where a breakpoint is met.
use Rattle.std.specs.Prelude.{◌≡◌, ℕ, ◌++◌, length, min, not, ◌==◌, ◌&&◌, ◌||◌, Bool, false, List, [], ◌∷◌, map, filter}
use Rattle.std.specs.Prelude.{is_some, slice_index, Option, Some, None}
use Rattle.std.specs.Option.{option_map_or}
use Rattle.bench_item.specs.declared.entry.Entry.{Entry}
use Rattle.bench_item.specs.declared.entry.Handled.{Handled}
use Rattle.bench_item.specs.declared.entry.Handled.TheVariants.{Move}
use Rattle.bench_item.specs.declared.entry.Moved.{Moved}
use Rattle.bench_item.specs.declared.item.Item.{Item}
use Rattle.bench_item.specs.declared.item.Item.TheVariants.{ToMachine}
use Rattle.bench_item.specs.declared.item.MachineItem.{MachineItem}
use Rattle.bench_item.specs.declared.step.Step.{Step}
use Rattle.bench_item.specs.declared.step.Step.TheVariants.{Work}
use Rattle.bench_item.specs.Keys.{is_same_key, is_same_role}
use Rattle.debug_text.specs.declared.command.Breakpoint.{Breakpoint}
use Rattle.debug_text.specs.declared.command.Breakpoint.TheVariants.{Row, State, Kind, Machine, Value}
use Rattle.bench_debug.specs.declared.debugger.SetBreakpoint.{SetBreakpoint}

-- the item that an entry handles: carrying one is not handling it
abbrev pub handled_with : Step → Option Item → Option MachineItem
handled_with (Work shard) (Some (ToMachine item)) = Some item
handled_with step item = None

abbrev pub handled_in : Entry → Option MachineItem
handled_in e = handled_with e.step e.item

-- the move that it led to: stale and busy ones led to none
abbrev pub move_with : Option Handled → Option Moved
move_with (Some (Move moved)) = Some moved
move_with handled = None

abbrev pub move_in : Entry → Option Moved
move_in e = move_with e.handled

-- whether a register has a value
abbrev pub has_value : List ℕ → ℕ → ℕ → Bool
has_value registers register value = slice_index registers register == value

-- whether a move that an item led to is by that row, or leaves its machine in that state, or its register with that
-- value, which it had not before
abbrev pub is_met_by : Breakpoint → MachineItem → Moved → Bool
is_met_by (Row role row) item moved = is_same_role role item.key.role && option_map_or (λ r. r == row) moved.row false
is_met_by (State key state) item moved = is_same_key key item.key && (moved.after.state == state)
is_met_by (Value key register value) item moved =
    is_same_key key item.key
    && (has_value moved.after.regs register value && not (has_value moved.before.regs register value))
is_met_by (Kind kind) item moved = false
is_met_by (Machine key) item moved = false

-- whether an item that is handled, stale and busy ones too, is of that kind or for that machine
abbrev pub is_met_at : Breakpoint → MachineItem → Bool
is_met_at (Kind kind) item = item.event.kind == kind
is_met_at (Machine key) item = is_same_key key item.key
is_met_at other item = false

-- whether a breakpoint is met by an item that is handled
abbrev pub is_met_with : Breakpoint → Option Moved → MachineItem → Bool
is_met_with breakpoint moved item = is_met_at breakpoint item || option_map_or (is_met_by breakpoint item) moved false

-- whether an entry meets a breakpoint
abbrev pub meets : Entry → Breakpoint → Bool
meets e breakpoint = option_map_or (is_met_with breakpoint (move_in e)) (handled_in e) false

-- the least of numbers, if there is one
abbrev pub least : List ℕ → Option ℕ
least [] = None
least (n ∷ numbers) = Some (option_map_or (min n) (least numbers) n)

-- the breakpoint that a run stops at: of those that are set and that the entry meets, the one of the least number
abbrev pub first_met : List SetBreakpoint → Entry → Option ℕ
first_met set e = least (map (λ b. b.number) (filter (λ b. meets e b.breakpoint) set))

-- whether a run stops at an entry
abbrev pub stops : List SetBreakpoint → Entry → Bool
stops set e = is_some (first_met set e)

-- none of these entries meets a breakpoint that is set
abbrev pub MeetsNone : List SetBreakpoint → List Entry → Type 0
MeetsNone set entries = filter (stops set) entries ≡ []

-- the last of these entries that meets a breakpoint stands at this place, and this is the least number that it meets
pub record LastMet (set : List SetBreakpoint) (entries : List Entry) (place number : ℕ) : Type 0 where
  pub before : List Entry
  pub last : Entry
  pub behind : List Entry
  pub split : entries ≡ before ++ last ∷ behind
  pub at : length before ≡ place
  pub met : first_met set last ≡ Some number
  pub none_behind : MeetsNone set behind
