-- The lines of an entry of the log.
use Rattle.std.specs.Prelude.{ℕ, ◌==◌, Bool, true, false, List, [], ◌∷◌, ◌++◌, Option, Some, None, codes}
use Rattle.std.specs.Prelude.{decimal, slice_get, if◌then◌else◌}
use Rattle.std.specs.List.{flat_map, list_any}
use Rattle.acct_totals.specs.declared.op.Outcome.{Outcome}
use Rattle.acct_totals.specs.declared.op.Outcome.TheVariants.{Done, Refused}
use Rattle.base_codes.specs.DeedCodes.{number_of}
use Rattle.base_codes.specs.declared.deed_code.DeedCode.TheVariants.{Reserve, Debit, Release, Charge, Refund}
use Rattle.event_text.specs.Deeds.{deed_words, name_or}
use Rattle.tab_law.specs.declared.scene.Deed.{Deed}
use Rattle.bench_item.specs.declared.entry.Entry.{Entry}
use Rattle.bench_item.specs.declared.entry.Handled.{Handled}
use Rattle.bench_item.specs.declared.entry.Handled.TheVariants.{TooBusy, Stale, Move}
use Rattle.bench_item.specs.declared.entry.Moved.{Moved}
use Rattle.bench_item.specs.declared.item.Item.{Item}
use Rattle.bench_item.specs.declared.item.Item.TheVariants.{ToMachine}
use Rattle.bench_item.specs.declared.item.MachineItem.{MachineItem}
use Rattle.bench_item.specs.declared.key.Key.{Key}
use Rattle.bench_item.specs.declared.key.Role.{Role}
use Rattle.bench_item.specs.declared.step.Step.{Step}
use Rattle.bench_item.specs.declared.step.Step.TheVariants.{Work}
use Rattle.step_text.specs.Lines.{behind, line_of}
use Rattle.step_text.specs.Names.{key_name, kind_word, shown}
use Rattle.log_text.specs.Books.{Named}

-- a state of a machine of that role, by its name, or by its number where it has none
abbrev pub state_text : Named → Role → ℕ → List ℕ
state_text names role state = codes " " ++ name_or (slice_get (names.states role) state) state

-- a row of a table; `-` where none took the event
abbrev pub row_text : Option ℕ → List ℕ
row_text None = codes " row -"
row_text (Some row) = codes " row " ++ decimal row

-- `  KEY KIND`: which machine, and of its event the kind
abbrev pub item_text : Named → Key → ℕ → List ℕ
item_text names key kind = codes " " ++ behind (shown (key_name key) ∷ kind_word names.names kind ∷ [])

-- `  KEY KIND FROM TO row R`
abbrev pub moved_line : Named → Key → ℕ → ℕ → ℕ → Option ℕ → List ℕ
moved_line names key kind before after row =
    item_text names key kind ++ state_text names key.role before ++ state_text names key.role after ++ row_text row

-- `  KEY KIND STATE STATE stale`
abbrev pub stale_line : Named → Key → ℕ → ℕ → List ℕ
stale_line names key kind state =
    item_text names key kind ++ state_text names key.role state ++ state_text names key.role state ++ codes " stale"

-- a deed of the account book
abbrev pub is_booking : ℕ → Bool
is_booking code = list_any (λ booking. number_of booking == code) (Reserve ∷ Debit ∷ Release ∷ Charge ∷ Refund ∷ [])

-- what the account book made of a deed
abbrev pub outcome_text : Outcome → List ℕ
outcome_text (Done amount unpaid) = codes " = " ++ decimal amount ++ codes " " ++ decimal unpaid
outcome_text Refused = codes " refused"

-- `    NAME A ..`: a deed by its name, or by its code where it has none, and its arguments up to the last that isn't 0
abbrev pub deed_text : Deed → List ℕ
deed_text deed = codes "    " ++ deed_words deed

-- the first outcome, and the others
abbrev pub first_text : List Outcome → List ℕ
first_text [] = []
first_text (outcome ∷ outcomes) = outcome_text outcome

abbrev pub others : List Outcome → List Outcome
others [] = []
others (outcome ∷ outcomes) = outcomes

-- each deed on a line of its own, one of the account book with its outcome
abbrev pub deed_lines : List Deed → List Outcome → List ℕ
deed_lines [] outcomes = []
deed_lines (deed ∷ deeds) outcomes =
    if is_booking deed.code
    then deed_text deed ++ first_text outcomes ++ codes "\n" ++ deed_lines deeds (others outcomes)
    else deed_text deed ++ codes "\n" ++ deed_lines deeds outcomes

-- `  KEY KIND FROM TO row R`, and the deeds below it
abbrev pub move_lines : Named → MachineItem → Moved → List ℕ
move_lines names item moved =
    moved_line names item.key item.event.kind moved.before.state moved.after.state moved.row
    ++ codes "\n" ++ deed_lines moved.deeds moved.outcomes

-- what became of an item for a machine
abbrev pub handled_lines : Named → MachineItem → Handled → List ℕ
handled_lines names item TooBusy = codes "  busy\n"
handled_lines names item (Stale state) = stale_line names item.key item.event.kind state ++ codes "\n"
handled_lines names item (Move moved) = move_lines names item moved

-- a step of a shard
abbrev pub is_work : Step → Bool
is_work (Work shard) = true
is_work step = false

-- what became of an item for a machine, where there is one
abbrev pub became : Named → Option Item → Option Handled → List ℕ
became names (Some (ToMachine item)) (Some handled) = handled_lines names item handled
became names item handled = []

-- what stands below a step's line
abbrev pub below : Named → Step → Option Item → Option Handled → List ℕ
below names step item handled = if is_work step then became names item handled else []

-- an entry: its step, and below a `work` what became of the item
abbrev pub entry_lines : Named → Entry → List ℕ
entry_lines names entry =
    line_of names.names entry.step ++ codes "\n" ++ below names entry.step entry.item entry.handled

-- a log: its entries
abbrev pub log_lines : Named → List Entry → List ℕ
log_lines names log = flat_map (entry_lines names) log
