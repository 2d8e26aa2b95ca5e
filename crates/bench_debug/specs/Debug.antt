-- What the commands of a debugger do to its place and its script, and what each replies, or why it is refused.
use Rattle.std.specs.Prelude.{◌≡◌, ◌≢◌, ℕ, ◌+◌, ◌-◌, ◌<◌, ◌==◌, ◌||◌, not, nat_le, Bool, false, List, [], ◌∷◌, ◌++◌}
use Rattle.std.specs.Prelude.{filter, find, length, drop, take, reverse}
use Rattle.std.specs.Prelude.{Option, None, Some, is_none, option_map, slice_get, slice_index, unwrap_or, IsSomeAnd}
use Rattle.std.specs.Prelude.{MatchBool, Result, Ok, Err, ◌⊎◌}
use Rattle.std.specs.List.{list_any, range_with_len}
use Rattle.bench_item.specs.declared.entry.Entry.{Entry}
use Rattle.bench_item.specs.declared.key.Key.{Key}
use Rattle.bench_item.specs.declared.key.Role.{Role}
use Rattle.bench_item.specs.declared.limit.TheConstants.{MAX_BREAKPOINTS}
use Rattle.bench_item.specs.declared.entry.Moved.{Moved}
use Rattle.bench_script.specs.Printed.{taken_text}
use Rattle.bench_show.specs.Accounts.{accounts_text}
use Rattle.bench_show.specs.History.{LastMove, MovesNone, history_text, move_in}
use Rattle.bench_show.specs.Lines.{lines_text}
use Rattle.bench_show.specs.Queues.{queues_text}
use Rattle.bench_show.specs.Timers.{timers_text}
use Rattle.bench_show.specs.Why.{why_text}
use Rattle.bench_spec.specs.Refusal.{is_empty, is_line}
use Rattle.bench_spec.specs.Settings.{table_of}
use Rattle.bench_spec.specs.Taken.{GoesBackTo, Run, shown, with_log}
use Rattle.debug_text.specs.Commands.{command_of}
use Rattle.debug_text.specs.declared.command.Breakpoint.{Breakpoint}
use Rattle.debug_text.specs.declared.command.Breakpoint.TheVariants.{Row}
use Rattle.debug_text.specs.declared.command.Command.{Command}
use Rattle.debug_text.specs.declared.command.Command.TheVariants as commands
use Rattle.debug_text.specs.declared.command.CommandFault.{CommandFault}
use Rattle.debug_text.specs.declared.command.CommandFault.TheVariants.{AtStart, BadNumber, NoMemory, NoSuchAccount}
use Rattle.debug_text.specs.declared.command.CommandFault.TheVariants.{NoSuchBreakpoint, NoSuchMachine, NoSuchRow}
use Rattle.debug_text.specs.declared.command.CommandFault.TheVariants.{StepRefused, TooManyBreakpoints}
use Rattle.debug_text.specs.declared.reply.Reply.{Reply}
use Rattle.debug_text.specs.declared.reply.Reply.TheVariants.{Text, End, At, StoppedAt, EndAt, WasSet, WasCleared}
use Rattle.debug_text.specs.declared.reply.Reply.TheVariants.{Stands, AreTotals, IsAt, Help}
use Rattle.script_text.specs.declared.asked.ScriptStep.{ScriptStep}
use Rattle.sent_text.specs.Sent.{Tells}
use Rattle.tab_print.specs.Printed.{row_line, widths_of}
use Rattle.tab_text.specs.Contents.{Contents}
use Rattle.bench_debug.specs.Asking.{IsRefused, TakesAsked}
use Rattle.bench_debug.specs.Meets.{LastMet, MeetsNone, first_met}
use Rattle.bench_debug.specs.Tables.{tables_in}
use Rattle.bench_debug.specs.declared.debugger.Progress.{Progress}
use Rattle.bench_debug.specs.declared.debugger.SetBreakpoint.{SetBreakpoint}
use Rattle.bench_debug.specs.declared.debugger.TheConstants.{MAX_NUMBER}

-- a debugger: its world; its script and the place in it of the next step; of each step that it took and did not take
-- back the place in the script; and the breakpoints that are set, with how many ever were
pub record Debugging : Type 0 where
  pub world : Run
  pub script : List ScriptStep
  pub next : ℕ
  pub taken : List ℕ
  pub set : List SetBreakpoint
  pub count : ℕ

abbrev pub debugging : Run → Progress → Debugging
debugging world progress = record {
  world = world;
  script = progress.script.items;
  next = progress.next;
  taken = progress.taken.items;
  set = progress.set.items;
  count = progress.count;
}

-- a debugger of a world, at the start of its script
abbrev pub started : Run → List ScriptStep → Debugging
started world script = record { world = world; script = script; next = 0; taken = []; set = []; count = 0 }

-- how many steps are taken
abbrev pub place_of : Debugging → ℕ
place_of d = length d.world.log

-- behind the next step of the script: it was taken, and left this world; or it was refused
abbrev pub with_taken : Debugging → Run → Debugging
with_taken d world = record d { world = world; next = d.next + 1; taken = d.taken ++ d.next ∷ [] }

abbrev pub with_passed : Debugging → Debugging
with_passed d = record d { next = d.next + 1 }

-- the step that the script asks for next was taken, and this is its entry
pub record StepsTo (old new : Debugging) (entry : Entry) : Type 0 where
  pub ask : ScriptStep
  pub asks : slice_get old.script old.next ≡ Some ask
  pub taken : TakesAsked old.world new.world ask
  pub is_entry : taken.takes.entry ≡ entry
  pub moved : new ≡ with_taken old new.world

-- the next step was taken
abbrev pub Advances : Debugging → Debugging → Type 0
Advances old new = (e : Entry) × StepsTo old new e

-- it was refused, and the script goes past it; or memory was wanting, and nothing changed
abbrev pub refused_at : Debugging → CommandFault → Debugging
refused_at d (StepRefused fault) = with_passed d
refused_at d fault = d

abbrev pub Refuses : Debugging → Debugging → CommandFault → Type 0
Refuses old new fault =
    IsSomeAnd (slice_get old.script old.next) (λ ask. IsRefused old.world ask fault) × (new ≡ refused_at old fault)

-- the script has no more steps
abbrev pub IsAtEnd : Debugging → Type 0
IsAtEnd d = slice_get d.script d.next ≡ None

-- `step`: the entry's text, or that the script has ended
abbrev pub Steps : Debugging → Debugging → Result Reply CommandFault → Type 0
Steps old new (Ok (Text text)) = (e : Entry) × StepsTo old new e × (text ≡ taken_text new.world e)
Steps old new (Ok End) = IsAtEnd old × (new ≡ old)
Steps old new (Ok reply) = ⊥
Steps old new (Err fault) = Refuses old new fault

-- the world at a place of its log
abbrev pub run_at : Run → ℕ → Run
run_at run place = with_log run (take place run.log)

-- between two places of the log, the step was taken that the script asked for
abbrev pub TakesAt : Debugging → Debugging → ℕ → Type 0
TakesAt old new k =
    IsSomeAnd (slice_get old.script (old.next + k))
    (TakesAsked (run_at new.world (place_of old + k)) (run_at new.world (place_of old + k + 1)))

-- so many steps of the script were taken: place by place those that it asked for, none passed over
pub record Forward (old new : Debugging) (count : ℕ) : Type 0 where
  pub place : place_of new ≡ place_of old + count
  pub kept : run_at new.world (place_of old) ≡ old.world
  pub each : (k : ℕ) → k < count → TakesAt old new k
  pub next : new.next ≡ old.next + count
  pub taken : new.taken ≡ old.taken ++ range_with_len old.next count
  pub script : new.script ≡ old.script
  pub set : new.set ≡ old.set
  pub numbers : new.count ≡ old.count

-- the entries that came behind a place
abbrev pub entries_from : Debugging → ℕ → List Entry
entries_from d place = drop place d.world.log

-- of these entries the last one meets a breakpoint, of this number, and none before it does
pub record StopsBy (set : List SetBreakpoint) (entries : List Entry) (number : ℕ) : Type 0 where
  pub before : List Entry
  pub last : Entry
  pub split : entries ≡ before ++ last ∷ []
  pub none_before : MeetsNone set before
  pub met : first_met set last ≡ Some number

-- steps were taken up to one that meets a breakpoint
pub record Stopped (old new : Debugging) (place number : ℕ) : Type 0 where
  pub count : ℕ
  pub forward : Forward old new count
  pub stops_by : StopsBy old.set (entries_from new (place_of old)) number
  pub at : place ≡ place_of new

-- steps were taken that meet none
pub record Passed (old new : Debugging) : Type 0 where
  pub count : ℕ
  pub forward : Forward old new count
  pub none : MeetsNone old.set (entries_from new (place_of old))

-- they were, and the next was refused
pub record PassedTo (old new : Debugging) (fault : CommandFault) : Type 0 where
  pub mid : Debugging
  pub passed : Passed old mid
  pub refuses : Refuses mid new fault

-- `go`: to the first entry that meets a breakpoint, to the end of the script, or to a step that is refused
abbrev pub Goes : Debugging → Debugging → Result Reply CommandFault → Type 0
Goes old new (Ok (StoppedAt place number)) = Stopped old new place number
Goes old new (Ok (EndAt place)) = Passed old new × IsAtEnd new × (place ≡ place_of new)
Goes old new (Ok reply) = ⊥
Goes old new (Err fault) = PassedTo old new fault

-- back: the script stands at the step that was taken back, or at its start where that was taken before
abbrev pub with_back : Debugging → Run → Debugging
with_back d world = record d {
  world = world;
  next = slice_index d.taken (length d.taken - 1);
  taken = take (length d.taken - 1) d.taken;
}

-- back at a place: the steps behind it were taken back; the script stands at the first of these, or at its start where
-- that was taken before
abbrev pub gone_back : Debugging → ℕ → Debugging
gone_back d place = record d {
  world = run_at d.world place;
  next = slice_index (d.next ∷ reverse d.taken) (place_of d - place);
  taken = take (length d.taken - (place_of d - place)) d.taken;
}

-- forward along the script to a place, to the script's end, or to a step that is refused
abbrev pub GoesOn : Debugging → Debugging → ℕ → Result Reply CommandFault → Type 0
GoesOn old new place (Ok (At n)) = (n ≡ place) × (place_of new ≡ place) × Forward old new (place - place_of old)
GoesOn old new place (Ok (EndAt n)) =
    (n ≡ place_of new) × (place_of new < place) × Forward old new (place_of new - place_of old) × IsAtEnd new
GoesOn old new place (Ok reply) = ⊥
GoesOn old new place (Err fault) =
    (mid : Debugging) × (place_of mid < place) × Forward old mid (place_of mid - place_of old) × Refuses mid new fault

-- `goto N`: back to that place, or forward to it
abbrev pub GoesTo : Debugging → Debugging → ℕ → Result Reply CommandFault → Type 0
GoesTo old new place result =
    MatchBool (nat_le place (place_of old))
    ((result ≡ Ok (At place)) × (new ≡ gone_back old place))
    (GoesOn old new place result)

-- `rgo`: back to the place before the last entry that meets a breakpoint, or to the start where none does; there it is
-- refused, and elsewhere for want of memory alone
abbrev pub GoesBackMet : Debugging → Debugging → Result Reply CommandFault → Type 0
GoesBackMet old new (Ok (StoppedAt place number)) =
    LastMet old.set old.world.log place number × (new ≡ gone_back old place)
GoesBackMet old new (Ok (At place)) =
    (place ≡ 0) × (old.world.log ≢ []) × MeetsNone old.set old.world.log × (new ≡ gone_back old 0)
GoesBackMet old new (Ok reply) = ⊥
GoesBackMet old new (Err AtStart) = (old.world.log ≡ []) × (new ≡ old)
GoesBackMet old new (Err NoMemory) = (old.world.log ≢ []) × (new ≡ old)
GoesBackMet old new (Err fault) = ⊥

-- with one more breakpoint, which has the next number; and without one
abbrev pub with_set : Debugging → Breakpoint → Debugging
with_set d breakpoint = record d {
  set = d.set ++ record { number = d.count + 1; breakpoint = breakpoint } ∷ [];
  count = d.count + 1;
}

abbrev pub without : Debugging → ℕ → Debugging
without d number = record d { set = filter (λ b. not (b.number == number)) d.set }

-- as many breakpoints are set as there may be, or the numbers are used up
abbrev pub has_all_breakpoints : Debugging → Bool
has_all_breakpoints d = nat_le MAX_BREAKPOINTS (length d.set) || nat_le MAX_NUMBER d.count

-- a table has no such row
abbrev pub lacks_row : Debugging → Role → ℕ → Bool
lacks_row d role row = nat_le (length (table_of d.world.settings role).rows) row

-- a breakpoint at a row that the role's table lacks
abbrev pub lacks_break_row : Debugging → Breakpoint → Bool
lacks_break_row d (Row role row) = lacks_row d role row
lacks_break_row d breakpoint = false

-- what stands in the way of a command that takes no step
abbrev pub command_reasons : Debugging → Command → List (Bool × CommandFault)
command_reasons d commands.Back = (is_empty d.world.log, AtStart) ∷ []
command_reasons d (commands.Break breakpoint) =
    (lacks_break_row d breakpoint, NoSuchRow) ∷ (has_all_breakpoints d, TooManyBreakpoints) ∷ []
command_reasons d (commands.Clear number) = (not (list_any (λ b. b.number == number) d.set), NoSuchBreakpoint) ∷ []
command_reasons d (commands.Show key) = (is_none ((shown d.world).machine_of key), NoSuchMachine) ∷ []
command_reasons d (commands.History key) = (is_none ((shown d.world).machine_of key), NoSuchMachine) ∷ []
command_reasons d (commands.ListRow role row) = (lacks_row d role row, NoSuchRow) ∷ []
command_reasons d (commands.Sent line) = (not (is_line d.world.log line), BadNumber) ∷ []
command_reasons d (commands.TotalsOf account) = (is_none ((shown d.world).totals_at account), NoSuchAccount) ∷ []
command_reasons d command = []

abbrev pub command_refusal : Debugging → Command → Option CommandFault
command_refusal d command = option_map (λ reason. reason.1) (find (λ reason. reason.0) (command_reasons d command))

-- `back`: the world before the last step
abbrev pub GoesBack : Debugging → Debugging → ℕ → Type 0
GoesBack old new place =
    GoesBackTo old.world new.world × (new ≡ with_back old new.world) × (place ≡ place_of new)

-- a row of a table, as the table is printed
abbrev pub row_text : Contents → ℕ → Option (List ℕ)
row_text table row = option_map (row_line table (widths_of table)) (slice_get table.rows row)

-- why a machine moved as it did the last time
pub record TellsWhy (run : Run) (key : Key) (text : List ℕ) : Type 0 where
  pub number : ℕ
  pub entry : Entry
  pub moved : Moved
  pub last : LastMove key run.log number entry
  pub move : move_in key entry ≡ Some moved
  pub told : text ≡ why_text run key (number, entry) moved

-- `why KEY`: of the last move of the machine; refused where it has not moved, or for want of memory,
-- which it may take to see that
abbrev pub Whys : Debugging → Debugging → Key → Result Reply CommandFault → Type 0
Whys old new key (Ok (Text text)) = TellsWhy old.world key text × (new ≡ old)
Whys old new key (Ok reply) = ⊥
Whys old new key (Err NoSuchMachine) = MovesNone key old.world.log × (new ≡ old)
Whys old new key (Err NoMemory) = new ≡ old
Whys old new key (Err fault) = ⊥

-- what such a command replies, and what it does: all replies are of the world at its place
abbrev pub Replies : Debugging → Debugging → Command → Reply → Type 0
Replies old new commands.Back (At place) = GoesBack old new place
Replies old new (commands.Break breakpoint) (WasSet number) = (number ≡ new.count) × (new ≡ with_set old breakpoint)
Replies old new (commands.Clear number) (WasCleared n) = (n ≡ number) × (new ≡ without old number)
Replies old new (commands.Show key) (Stands k state) =
    (k ≡ key) × ((shown old.world).machine_of key ≡ Some state) × (new ≡ old)
Replies old new (commands.History key) (Text text) = (text ≡ history_text old.world key) × (new ≡ old)
Replies old new commands.Queues (Text text) = (text ≡ queues_text old.world) × (new ≡ old)
Replies old new commands.Timers (Text text) = (text ≡ timers_text old.world) × (new ≡ old)
Replies old new commands.Lines (Text text) = (text ≡ lines_text old.world) × (new ≡ old)
Replies old new (commands.Sent line) (Text text) = Tells ((shown old.world).sent_of line) text × (new ≡ old)
Replies old new (commands.ListRow role row) (Text text) =
    (Some text ≡ row_text (table_of old.world.settings role) row) × (new ≡ old)
Replies old new (commands.TotalsOf account) (AreTotals totals) =
    ((shown old.world).totals_at account ≡ Some totals) × (new ≡ old)
Replies old new commands.Accounts (Text text) = (text ≡ accounts_text old.world) × (new ≡ old)
Replies old new commands.Where (IsAt place next last) =
    (place ≡ place_of old) × (next ≡ old.next) × (last ≡ length old.script) × (new ≡ old)
Replies old new commands.Help Help = new ≡ old
Replies old new command reply = ⊥

-- a command that takes no step: replied to where no reason stands in its way, else refused by the first; or memory was
-- wanting
abbrev pub Answers : Debugging → Debugging → Command → Result Reply CommandFault → Type 0
Answers old new command (Ok reply) = (command_refusal old command ≡ None) × Replies old new command reply
Answers old new command (Err fault) = (unwrap_or (command_refusal old command) NoMemory ≡ fault) × (new ≡ old)

-- every command
abbrev pub Commands : Debugging → Debugging → Command → Result Reply CommandFault → Type 0
Commands old new commands.Step result = Steps old new result
Commands old new commands.Go result = Goes old new result
Commands old new commands.ReverseGo result = GoesBackMet old new result
Commands old new (commands.Goto place) result = GoesTo old new place result
Commands old new (commands.Why key) result = Whys old new key result
Commands old new command result = Answers old new command result

-- a line: a command that is done, or the fault of the line; or memory was wanting to read it
abbrev pub DoesRead : Debugging → Debugging → Result Command CommandFault → Result Reply CommandFault → Type 0
DoesRead old new (Err fault) result = (result ≡ Err fault) × (new ≡ old)
DoesRead old new (Ok command) result =
    Commands old new command result ⊎ ((result ≡ Err NoMemory) × (new ≡ old))

abbrev pub Does : Debugging → Debugging → List ℕ → Result Reply CommandFault → Type 0
Does old new line result = DoesRead old new (command_of (tables_in old.world.settings) line) result
