-- The entry whose lines are being read, and which line may stand behind it.
use Rattle.std.specs.Prelude.{◌≡◌, ◌<◌, ◌+◌, ◌==◌, ◌&&◌, ◌⊎◌, if◌then◌else◌, option_map, ℕ, Bool, true, false, List, []}
use Rattle.std.specs.Prelude.{◌∷◌, ◌++◌, length, filter, map, replicate, Option, Some, None, codes, not}
use Rattle.acct_totals.specs.declared.op.Outcome.{Outcome}
use Rattle.tab_law.specs.declared.limits.TheConstants.{PLACES}
use Rattle.tab_step.specs.declared.machine.Event.{Event}
use Rattle.tab_step.specs.declared.machine.MachineState.{MachineState}
use Rattle.bench_item.specs.declared.entry.Entry.{Entry}
use Rattle.bench_item.specs.declared.entry.Handled.{Handled}
use Rattle.bench_item.specs.declared.entry.Handled.TheVariants as handled
use Rattle.bench_item.specs.declared.entry.Moved.{Moved}
use Rattle.bench_item.specs.declared.item.Item.{Item}
use Rattle.bench_item.specs.declared.item.Item.TheVariants.{ToMachine}
use Rattle.bench_item.specs.declared.key.Role.TheVariants.{Peer}
use Rattle.bench_item.specs.declared.limit.TheConstants.{MAX_ENTRIES}
use Rattle.bench_item.specs.declared.step.Step.{Step}
use Rattle.step_text.specs.Faults.{IsStepOf}
use Rattle.step_text.specs.Lines.{line_of}
use Rattle.step_text.specs.Shown.{step_shown}
use Rattle.step_text.specs.Steps.{IsStep}
use Rattle.log_text.specs.Books.{Named}
use Rattle.log_text.specs.EntryLines.{is_booking, is_work}
use Rattle.log_text.specs.ItemLines.{IsItemLine, IsItemOf}
use Rattle.log_text.specs.DeedLines.{IsDeedLine, IsDeedOf}
use Rattle.log_text.specs.Shown.{item_shown}
use Rattle.log_text.specs.declared.item.Who.{Who}
use Rattle.log_text.specs.declared.item.ItemLine.{ItemLine}
use Rattle.log_text.specs.declared.item.ItemLine.TheVariants.{TooBusy, Stale, Moved as moved}
use Rattle.log_text.specs.declared.deed_line.DeedLine.{DeedLine}
use Rattle.log_text.specs.declared.end.End.{End}
use Rattle.log_text.specs.declared.end.Last.{Last}
use Rattle.log_text.specs.declared.end.Last.TheVariants as last
use Rattle.log_text.specs.declared.end.LogLine.{LogLine}
use Rattle.log_text.specs.declared.end.LogLine.TheVariants as told
use Rattle.log_text.specs.declared.pending.Pending.{Pending}
use Rattle.log_text.specs.declared.pending.Reader.{Reader}

-- a line with its newline
abbrev pub ended : List ℕ → List ℕ
ended line = line ++ codes "\n"

abbrev pub begins_blank : List ℕ → Bool
begins_blank [] = false
begins_blank (c ∷ cs) = c == 32

-- what the account book made of the deeds that are its own
abbrev pub outcomes_of : List DeedLine → List Outcome
outcomes_of lines = map (λ line. line.outcome) (filter (λ line. is_booking line.deed.code) lines)

-- what a text doesn't tell is 0
abbrev pub event_of : ℕ → Event
event_of kind = record { kind = kind; facts = replicate PLACES 0 }

abbrev pub state_of : ℕ → MachineState
state_of state = record { state = state; regs = replicate PLACES 0 }

abbrev pub item_of : Who → Item
item_of who = ToMachine (record { key = who.key; event = event_of who.kind; condition = None; session = [] })

abbrev pub nobody : Who
nobody = record { key = record { role = Peer; name = [] }; kind = 0 }

abbrev pub move_of : ℕ → ℕ → ℕ → Option ℕ → List DeedLine → Moved
move_of kind before after row lines = record {
  machine = 0;
  event = event_of kind;
  before = state_of before;
  after = state_of after;
  row = row;
  chain = [];
  deeds = map (λ line. line.deed) lines;
  outcomes = outcomes_of lines;
}

-- the entry that lines tell
abbrev pub entry_with : Step → Option ItemLine → List DeedLine → Entry
entry_with step None lines = record { step = step; item = None; handled = None }
entry_with step (Some TooBusy) lines =
    record { step = step; item = Some (item_of nobody); handled = Some handled.TooBusy }
entry_with step (Some (Stale who state)) lines =
    record { step = step; item = Some (item_of who); handled = Some (handled.Stale state) }
entry_with step (Some (moved who before after row)) lines =
    record {
      step = step;
      item = Some (item_of who);
      handled = Some (handled.Move (move_of who.kind before after row lines));
    }

-- an entry whose lines are being read: what they tell so far
pub record Begun : Type 0 where
  pub step : Step
  pub item : Option ItemLine
  pub deeds : List DeedLine

abbrev pub begun_of : Pending → Begun
begun_of pending = record { step = pending.step; item = pending.item; deeds = pending.deeds.items }

abbrev pub entry_of : Begun → Entry
entry_of begun = entry_with begun.step begun.item begun.deeds

abbrev pub last_of : Option Begun → List Entry
last_of None = []
last_of (Some begun) = entry_of begun ∷ []

-- what lines tell so far: the entries that are ended, and the one to which more lines may come
pub record SoFar : Type 0 where
  pub log : List Entry
  pub begun : Option Begun

abbrev pub so_far : Reader → SoFar
so_far reader = record { log = reader.log.entries; begun = option_map begun_of reader.pending }

-- all its entries
abbrev pub entries_of : SoFar → List Entry
entries_of far = far.log ++ last_of far.begun

-- with the line of a step, of an item, of a deed
abbrev pub with_step : SoFar → Step → SoFar
with_step far step = record {
  log = entries_of far;
  begun = Some (record { step = step; item = None; deeds = [] });
}

abbrev pub with_item : SoFar → ItemLine → SoFar
with_item far item = record {
  log = far.log;
  begun = option_map (λ begun. record { step = begun.step; item = Some item; deeds = begun.deeds }) far.begun;
}

abbrev pub with_deed : SoFar → DeedLine → SoFar
with_deed far deed = record {
  log = far.log;
  begun =
      option_map (λ begun. record { step = begun.step; item = begun.item; deeds = begun.deeds ++ deed ∷ [] }) far.begun;
}

abbrev pub told_to : SoFar → LogLine → SoFar
told_to far (told.Step step) = with_step far (step_shown step)
told_to far (told.Item item) = with_item far (item_shown item)
told_to far (told.Deed deed) = with_deed far deed

-- something stands below a `work`
abbrev pub stands : Option Item → Option Handled → Bool
stands (Some (ToMachine item)) (Some told) = true
stands item told = false

-- a `work` below which nothing stands
abbrev pub is_waiting : Entry → Bool
is_waiting entry = is_work entry.step && not (stands entry.item entry.handled)

-- a move below a `work`
abbrev pub moved_below : Option Item → Option Handled → Bool
moved_below (Some (ToMachine item)) (Some (handled.Move move)) = true
moved_below item told = false

abbrev pub is_move : Entry → Bool
is_move entry = is_work entry.step && moved_below entry.item entry.handled

-- the line of a step
pub record IsStepLine (names : Named) (line : List ℕ) : Type 0 where
  pub step : Step
  pub is : IsStep names.names step
  pub has : line_of names.names step ≡ line

-- a step's line, in a log that isn't full
pub record MayBegin (names : Named) (log : List Entry) (line : List ℕ) : Type 0 where
  pub step : IsStepLine names line
  pub room : length log < MAX_ENTRIES

-- whether a log's last entry passes
abbrev pub ends : (Entry → Bool) → List Entry → Bool
ends test [] = false
ends test (entry ∷ []) = test entry
ends test (entry ∷ next ∷ rest) = ends test (next ∷ rest)

-- which line may stand behind the text of a log: a step's, where the log isn't full;
-- an item's below a `work`; a deed's below a move
abbrev pub MayFollow : Named → List Entry → List ℕ → Type 0
MayFollow names log line =
    MayBegin names log line
    ⊎ ((ends is_waiting log ≡ true) × IsItemLine names line)
    ⊎ ((ends is_move log ≡ true) × IsDeedLine line)

-- how a log ends with the line of an item
abbrev pub last_item : ItemLine → Last
last_item (moved who before after row) = last.Moved
last_item item = last.Other

-- how a log ends with an entry of such a step and such an item
abbrev pub last_with : Step → Option ItemLine → Last
last_with step None = if is_work step then last.Waiting else last.Other
last_with step (Some item) = last_item item

abbrev pub last_in : Option Begun → Last
last_in None = last.Other
last_in (Some begun) = last_with begun.step begun.item

-- how the log ends that lines tell so far
abbrev pub end_of : SoFar → End
end_of far = record { entries = length (entries_of far); last = last_in far.begun }

-- how a log ends with what one line more tells
abbrev pub end_after : End → LogLine → End
end_after end (told.Step step) = record { entries = end.entries + 1; last = last_with (step_shown step) None }
end_after end (told.Item item) = record { entries = end.entries; last = last_item (item_shown item) }
end_after end (told.Deed deed) = end

-- which line may stand behind a log that ends so
abbrev pub MayStandAt : Named → End → List ℕ → Type 0
MayStandAt names end line =
    (IsStepLine names line × (end.entries < MAX_ENTRIES))
    ⊎ ((end.last ≡ last.Waiting) × IsItemLine names line)
    ⊎ ((end.last ≡ last.Moved) × IsDeedLine line)

-- a line tells this behind a log that ends so, where it may stand
abbrev pub IsTold : Named → End → List ℕ → LogLine → Type 0
IsTold names end line (told.Step step) = IsStepOf names.names line (step_shown step) × (end.entries < MAX_ENTRIES)
IsTold names end line (told.Item item) = IsItemOf names line (item_shown item) × (end.last ≡ last.Waiting)
IsTold names end line (told.Deed deed) = IsDeedOf line deed × (end.last ≡ last.Moved)
