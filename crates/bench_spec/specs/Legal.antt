-- Which logs are right.
use Rattle.std.specs.Prelude.{◌≡◌, nat_le, ◌&&◌, Bool, List, [], ◌∷◌, ◌++◌, flat_map, length, IsTrue, IsFalse, is_none}
use Rattle.std.specs.Prelude.{is_some, Option, Some, None, option_map, option_to_list}
use Rattle.acct_book.specs.Book.{NeverOver}
use Rattle.acct_book.specs.Laws.{EachAfter, IsAnswered}
use Rattle.tab_law.specs.Books.{Laws, NamedPermits}
use Rattle.tab_step.specs.Moves.{MovesBy, row_taken}
use Rattle.tab_step.specs.declared.machine.MachineState.{MachineState}
use Rattle.tab_text.specs.Contents.{Contents}
use Rattle.bench_item.specs.declared.entry.Entry.{Entry}
use Rattle.bench_item.specs.declared.entry.Handled.{Handled}
use Rattle.bench_item.specs.declared.entry.Moved.{Moved}
use Rattle.bench_item.specs.declared.entry.Handled.TheVariants.{TooBusy, Stale, Move}
use Rattle.bench_item.specs.Keys.{home}
use Rattle.bench_item.specs.declared.item.Item.{Item}
use Rattle.bench_item.specs.declared.item.Item.TheVariants.{ToMachine}
use Rattle.bench_item.specs.declared.item.MachineItem.{MachineItem}
use Rattle.bench_item.specs.declared.key.Key.{Key}
use Rattle.bench_item.specs.declared.limit.TheConstants.{MAX_MACHINES}
use Rattle.bench_item.specs.declared.step.Step.{Step}
use Rattle.bench_item.specs.declared.step.Step.TheVariants.{Fired, Lift, Drop, Work}
use Rattle.bench_spec.specs.Booked.{book_at, booked, event_with_quote, outcomes_for, want_of}
use Rattle.bench_spec.specs.Items.{InOrder, firing}
use Rattle.bench_spec.specs.Machines.{directory, holds, key_numbered, moves_of, number_for, number_of, start, state_at}
use Rattle.bench_spec.specs.Refusal.{refusal}
use Rattle.bench_spec.specs.Settings.{Settings, table_of}

-- one move by the rows of a table and the laws: the first row that takes the event, and what its actions may leave
-- (RFC 6733 section 5.6, RFC 8506 section 7)
pub record IsMove (laws : Laws) (table : Contents) (moved : Moved) : Type 0 where
  pub row : moved.row ≡ option_map (λ numbered. numbered.0) (row_taken table laws moved.before moved.event)
  pub moves : MovesBy (NamedPermits laws) table moved.before moved.event (row_taken table laws moved.before moved.event)
      moved.after moved.chain moved.deeds

-- whether there is no room for a machine: it is not there, and its shard has all that it may have
abbrev pub finds_no_room : Settings → List Entry → Key → Bool
finds_no_room settings past key =
    is_none (number_of settings.node past key)
    && nat_le MAX_MACHINES (length (directory settings.node (home settings.node.shards key.name) past))

-- whether the item's condition holds in its machine
abbrev pub is_met : Settings → List Entry → MachineItem → Bool
is_met settings past item = holds item.condition (state_at settings.node past item.key)

-- a move after those before it: of the machine that the item names, from where it stands, at the item's event with the
-- book's quote, by its table, with the outcomes that the book allows
pub record MovesNext (settings : Settings) (past : List Entry) (item : MachineItem) (moved : Moved) : Type 0 where
  pub machine : moved.machine ≡ number_for settings.node past item.key
  pub before : moved.before ≡ state_at settings.node past item.key
  pub event : moved.event
      ≡ event_with_quote (book_at settings past) (want_of settings.node.laws item moved.before) item.event
  pub move : IsMove settings.node.laws (table_of settings item.key.role) moved
  pub outcomes : moved.outcomes
      ≡ outcomes_for (book_at settings past) (want_of settings.node.laws item moved.before) moved.deeds

-- what becomes of an item: busy exactly where there is no room for its machine, else stale exactly where its condition
-- fails, else a move
abbrev pub BecomesOf : Settings → List Entry → MachineItem → Handled → Type 0
BecomesOf settings past item TooBusy = IsTrue (finds_no_room settings past item.key)
BecomesOf settings past item (Stale state) =
    IsFalse (finds_no_room settings past item.key) × IsFalse (is_met settings past item)
    × (state ≡ (state_at settings.node past item.key).state)
BecomesOf settings past item (Move moved) =
    IsFalse (finds_no_room settings past item.key) × IsTrue (is_met settings past item)
    × MovesNext settings past item moved

-- the item that was worked is one for a machine, and this became of it
abbrev pub IsWorked : Settings → List Entry → Option Item → Option Handled → Type 0
IsWorked settings past (Some (ToMachine item)) (Some handled) = BecomesOf settings past item handled
IsWorked settings past item handled = ⊥

-- an entry has what its step is to have: one that fires the item that it puts out, one that carries the item that is
-- carried, one that works the item and what became of it, and all others nothing
abbrev pub HasParts : Settings → List Entry → Entry → Type 0
HasParts settings past e = by e.step
  where
    by : Step → Type 0
    by (Fired machine generation) =
        (option_to_list e.item
        ≡ flat_map (firing settings.node generation) (option_to_list (key_numbered settings.node past machine)))
        × (e.handled ≡ None)
    by (Lift source) = IsTrue (is_some e.item) × (e.handled ≡ None)
    by (Drop source) = IsTrue (is_some e.item) × (e.handled ≡ None)
    by (Work shard) = IsWorked settings past e.item e.handled
    by step = (e.item ≡ None) × (e.handled ≡ None)

-- an entry may follow those before it: its step could be taken with no shard paused, it has its parts, and the order is
-- kept with it
pub record MayFollow (settings : Settings) (past : List Entry) (e : Entry) : Type 0 where
  pub could : refusal settings past [] e.step ≡ None
  pub parts : HasParts settings past e
  pub order : InOrder settings (past ++ e ∷ [])

-- a log is legal: each entry may follow those before it
abbrev pub IsLegal : Settings → List Entry → Type 0
IsLegal settings log = EachAfter (MayFollow settings) [] log

-- what a legal log is to every reader:

-- the moves are a run from a state: each begins where the one before ended, and is a move of the table
abbrev pub IsRun : Laws → Contents → MachineState → List Moved → Type 0
IsRun laws table state [] = Unit {0}
IsRun laws table state (moved ∷ moves) =
    (moved.before ≡ state) × IsMove laws table moved × IsRun laws table moved.after moves

-- of every machine: its moves are a run of the table of its role, from its start
abbrev pub AreRuns : Settings → List Entry → Type 0
AreRuns settings log =
    (key : Key) → IsRun settings.node.laws (table_of settings key.role)
    (start (number_for settings.node log key)) (moves_of log key)

-- the outcomes of all that was booked are those that the book allows, each after those before it
abbrev pub IsBookAnswered : Settings → List Entry → Type 0
IsBookAnswered settings log = IsAnswered settings.accounts (booked settings.node.laws log)

-- the laws of legal logs: one more entry that may follow keeps a log legal,
abbrev pub GoesOn : Type 0
GoesOn =
    (settings : Settings) (log : List Entry) (e : Entry) → IsLegal settings log → MayFollow settings log e
    → IsLegal settings (log ++ e ∷ [])

-- what stands before the last entry of a legal log is legal, and that entry may follow it,
abbrev pub GoesBack : Type 0
GoesBack =
    (settings : Settings) (log : List Entry) (e : Entry) → IsLegal settings (log ++ e ∷ [])
    → IsLegal settings log × MayFollow settings log e

-- and each front of a legal log is legal
abbrev pub FrontsAreLegal : Type 0
FrontsAreLegal = (settings : Settings) (log rest : List Entry) → IsLegal settings (log ++ rest) → IsLegal settings log

-- in a legal log the account book answers as it is to: each outcome is the one that it allows after those before it,
abbrev pub BookIsAnswered : Type 0
BookIsAnswered = (settings : Settings) (log : List Entry) → IsLegal settings log → IsBookAnswered settings log

-- and of no account is more reserved and debited than was given
abbrev pub NoneIsOver : Type 0
NoneIsOver = (settings : Settings) (log : List Entry) → IsLegal settings log → NeverOver (book_at settings log)

-- and of each machine the moves are a run of its role's table, from its start
abbrev pub EachIsRun : Type 0
EachIsRun = (settings : Settings) (log : List Entry) → IsLegal settings log → AreRuns settings log

-- a pause does nothing but refuse: a step that may be taken while shards are paused may be taken while none is
abbrev pub PauseOnlyRefuses : Type 0
PauseOnlyRefuses =
    (settings : Settings) (log : List Entry) (paused : List Bool) (step : Step)
    → refusal settings log paused step ≡ None → refusal settings log [] step ≡ None
