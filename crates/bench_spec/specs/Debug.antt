-- What the commands of a debugger do: to its place and its script, and what each replies or why it is refused.
use Rattle.std.specs.Prelude.{◌≡◌, ℕ, ◌+◌, ◌-◌, ◌==◌, not, nat_le, Bool, List, [], ◌∷◌, ◌++◌, filter, find, length}
use Rattle.std.specs.Prelude.{Option, None, Some, is_none, option_map, slice_get, unwrap_or, Result, Ok, Err, take}
use Rattle.std.specs.List.{last_or, list_any}
use Rattle.acct_totals.specs.declared.answer.Totals.{Totals}
use Rattle.tab_step.specs.declared.machine.MachineState.{MachineState}
use Rattle.tab_text.specs.declared.row.Row.{Row}
use Rattle.bench_item.specs.declared.entry.Entry.{Entry}
use Rattle.bench_item.specs.declared.key.Key.{Key}
use Rattle.bench_item.specs.declared.key.Role.{Role}
use Rattle.bench_item.specs.declared.limit.TheConstants.{MAX_BREAKPOINTS}
use Rattle.bench_item.specs.declared.step.Step.{Step}
use Rattle.bench_item.specs.declared.step.StepFault.{StepFault}
use Rattle.bench_spec.specs.Refusal.{is_empty, refusal}
use Rattle.bench_spec.specs.Settings.{table_of}
use Rattle.bench_spec.specs.Taken.{GoesBackTo, Run, Takes, shown}
use Rattle.bench_spec.specs.World.{Breakpoint, first_met}

-- a debugger: its world; its script and the place in it of the next step; of each step that it took and did not take
-- back the place in the script; and the breakpoints that are set, with how many ever were
pub record Debugging : Type 0 where
  pub world : Run
  pub script : List Step
  pub next : ℕ
  pub taken : List ℕ
  pub set : List (ℕ × Breakpoint)
  pub count : ℕ

-- a command, once it is read: what is set or shown is named so that it may be there
pub data Command : Type 0 where
  Next : Command
  Back : Command
  Go : Command
  Break : Breakpoint → Command
  Clear : ℕ → Command
  Show : Key → Command
  ListRow : Role → ℕ → Command
  TotalsOf : ℕ → Command
  Where : Command

-- what is replied: an entry; the end of the script; a place; a place where a breakpoint was met, or the script's end;
-- the number of a breakpoint that was set or cleared; a machine; a row; totals; the place, and the places in the script
-- and at its end
pub data Reply : Type 0 where
  Did : Entry → Reply
  End : Reply
  At : ℕ → Reply
  StoppedAt : ℕ → ℕ → Reply
  EndAt : ℕ → Reply
  WasSet : ℕ → Reply
  WasCleared : ℕ → Reply
  Stands : Key → MachineState → Reply
  IsRow : Row → Reply
  AreTotals : Totals → Reply
  IsAt : ℕ → ℕ → ℕ → Reply

-- why a command is refused; the numbers that are printed are 3 to 10, in this order
pub data CommandFault : Type 0 where
  NoSuchMachine : CommandFault
  NoSuchBreakpoint : CommandFault
  AtStart : CommandFault
  TooManyBreakpoints : CommandFault
  NoMemory : CommandFault
  StepRefused : StepFault → CommandFault
  NoSuchAccount : CommandFault
  NoSuchRow : CommandFault

abbrev pub place_of : Debugging → ℕ
place_of d = length d.world.log

-- a debugger of a world, at the start of its script
abbrev pub debugging : Run → List Step → Debugging
debugging world script = record { world = world; script = script; next = 0; taken = []; set = []; count = 0 }

-- where another world stands, behind the next step of the script: it was taken, or refused
abbrev pub with_taken : Debugging → Run → Debugging
with_taken d world = record d { world = world; next = d.next + 1; taken = d.taken ++ d.next ∷ [] }

abbrev pub with_passed : Debugging → Debugging
with_passed d = record d { next = d.next + 1 }

-- the next step: taken; refused, and passed over; at want of memory nothing is
abbrev pub StepsBy : Debugging → Debugging → Option Step → Result Reply CommandFault → Type 0
StepsBy old new None (Ok End) = new ≡ old
StepsBy old new (Some step) (Ok (Did e)) =
    (mid : Run) × (takes : Takes old.world mid step) × (takes.entry ≡ e) × (new ≡ with_taken old mid)
StepsBy old new (Some step) (Err (StepRefused fault)) =
    (refusal old.world.settings old.world.log old.world.paused step ≡ Some fault) × (new ≡ with_passed old)
StepsBy old new (Some step) (Err NoMemory) =
    (refusal old.world.settings old.world.log old.world.paused step ≡ None) × (new ≡ old)
StepsBy old new step result = ⊥

abbrev pub Steps : Debugging → Debugging → Result Reply CommandFault → Type 0
Steps old new result = StepsBy old new (slice_get old.script old.next) result

-- so many steps were taken, none of which met a breakpoint
abbrev pub PassesAll : Debugging → Debugging → List Entry → Type 0
PassesAll old new [] = new ≡ old
PassesAll old new (e ∷ entries) =
    (mid : Debugging) × Steps old mid (Ok (Did e)) × (first_met old.set e ≡ None) × PassesAll mid new entries

-- a run: to a step that meets a breakpoint, to the end of the script, or to a step that is refused
abbrev pub Goes : Debugging → Debugging → Result Reply CommandFault → Type 0
Goes old new (Ok (StoppedAt place number)) =
    (entries : List Entry) × (mid : Debugging) × (e : Entry) × PassesAll old mid entries × Steps mid new (Ok (Did e))
    × (first_met old.set e ≡ Some number)
    × (place ≡ place_of new)
Goes old new (Ok (EndAt place)) =
    (entries : List Entry) × PassesAll old new entries × (slice_get new.script new.next ≡ None) × (place ≡ place_of new)
Goes old new (Err fault) =
    (entries : List Entry) × (mid : Debugging) × PassesAll old mid entries × Steps mid new (Err fault)
Goes old new (Ok reply) = ⊥

-- back: the script stands at the step that was taken back, or at its start where that was taken before
abbrev pub with_back : Debugging → Run → Debugging
with_back d world = record d {
  world = world;
  next = unwrap_or (last_or None d.taken) 0;
  taken = take (length d.taken - 1) d.taken;
}

-- with one more breakpoint, which has the next number; and without one
abbrev pub with_set : Debugging → Breakpoint → Debugging
with_set d breakpoint = record d { set = d.set ++ (d.count + 1, breakpoint) ∷ []; count = d.count + 1 }

abbrev pub without : Debugging → ℕ → Debugging
without d number = record d { set = filter (λ b. not (b.0 == number)) d.set }

-- what stands in the way of a command that takes no step
abbrev pub command_reasons : Debugging → Command → List (Bool × CommandFault)
command_reasons d Back = (is_empty d.world.log, AtStart) ∷ []
command_reasons d (Break breakpoint) = (nat_le MAX_BREAKPOINTS (length d.set), TooManyBreakpoints) ∷ []
command_reasons d (Clear number) = (not (list_any (λ b. b.0 == number) d.set), NoSuchBreakpoint) ∷ []
command_reasons d (Show key) = (is_none ((shown d.world).machine_of key), NoSuchMachine) ∷ []
command_reasons d (ListRow role row) = (nat_le (length (table_of d.world.settings role).rows) row, NoSuchRow) ∷ []
command_reasons d (TotalsOf account) = (is_none ((shown d.world).totals_at account), NoSuchAccount) ∷ []
command_reasons d command = []

abbrev pub command_refusal : Debugging → Command → Option CommandFault
command_refusal d command = option_map (λ reason. reason.1) (find (λ reason. reason.0) (command_reasons d command))

-- what such a command replies, and what it does: all replies are of the world at its place
abbrev pub Replies : Debugging → Debugging → Command → Reply → Type 0
Replies old new Back (At place) =
    (mid : Run) × GoesBackTo old.world mid × (new ≡ with_back old mid) × (place ≡ place_of new)
Replies old new (Break breakpoint) (WasSet number) = (number ≡ new.count) × (new ≡ with_set old breakpoint)
Replies old new (Clear number) (WasCleared n) = (n ≡ number) × (new ≡ without old number)
Replies old new (Show key) (Stands k state) =
    (k ≡ key) × ((shown old.world).machine_of key ≡ Some state) × (new ≡ old)
Replies old new (ListRow role n) (IsRow row) =
    (slice_get (table_of old.world.settings role).rows n ≡ Some row) × (new ≡ old)
Replies old new (TotalsOf account) (AreTotals totals) =
    ((shown old.world).totals_at account ≡ Some totals) × (new ≡ old)
Replies old new Where (IsAt place next last) =
    (place ≡ place_of old) × (next ≡ old.next) × (last ≡ length old.script) × (new ≡ old)
Replies old new command reply = ⊥

-- a command that takes no step: replied to where no reason stands in its way, else refused by the first; or memory was
-- wanting
abbrev pub Answers : Debugging → Debugging → Command → Result Reply CommandFault → Type 0
Answers old new command (Ok reply) = (command_refusal old command ≡ None) × Replies old new command reply
Answers old new command (Err fault) = (unwrap_or (command_refusal old command) NoMemory ≡ fault) × (new ≡ old)

-- every command
abbrev pub Commands : Debugging → Debugging → Command → Result Reply CommandFault → Type 0
Commands old new Next result = Steps old new result
Commands old new Go result = Goes old new result
Commands old new command result = Answers old new command result
