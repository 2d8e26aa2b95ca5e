-- The moves of a machine up to a place, with the entries that they stand in.
use Rattle.std.specs.Prelude.{◌≡◌, ℕ, ◌+◌, Bool, true, List, [], ◌∷◌, ◌++◌, codes, decimal, filter, flat_map, is_some}
use Rattle.std.specs.Prelude.{length, Option, Some, None, if◌then◌else◌}
use Rattle.std.specs.List.{enumerate_from}
use Rattle.bench_item.specs.Keys.{is_same_key}
use Rattle.bench_item.specs.declared.entry.Entry.{Entry}
use Rattle.bench_item.specs.declared.entry.Handled.{Handled}
use Rattle.bench_item.specs.declared.entry.Handled.TheVariants.{Move}
use Rattle.bench_item.specs.declared.entry.Moved.{Moved}
use Rattle.bench_item.specs.declared.item.Item.{Item}
use Rattle.bench_item.specs.declared.item.Item.TheVariants.{ToMachine}
use Rattle.bench_item.specs.declared.key.Key.{Key}
use Rattle.bench_script.specs.Printed.{taken_text}
use Rattle.bench_spec.specs.Taken.{Run}

-- the move of a machine that an item led to: stale and busy ones led to none
abbrev pub moved_by : Key → Option Item → Option Handled → Option Moved
moved_by key (Some (ToMachine item)) (Some (Move moved)) = if is_same_key key item.key then Some moved else None
moved_by key item handled = None

-- the move of a machine in an entry
abbrev pub move_in : Key → Entry → Option Moved
move_in key e = moved_by key e.item e.handled

abbrev pub moves : Key → Entry → Bool
moves key e = is_some (move_in key e)

-- an entry with its number: its text in the bench that it led to
abbrev pub numbered_text : Run → (ℕ × Entry) → List ℕ
numbered_text run at = decimal at.0 ++ codes " " ++ taken_text run at.1

-- the same, where it moves the machine
abbrev pub told_of : Run → Key → (ℕ × Entry) → List ℕ
told_of run key at = if moves key at.1 then numbered_text run at else []

-- the entries that moved a machine, in order; the first entry of a log has the number 1
unfoldable pub history_to : Run → Key → List (ℕ × Entry) → List ℕ
history_to run key entries = flat_map (told_of run key) entries

abbrev pub history_text : Run → Key → List ℕ
history_text run key = history_to run key (enumerate_from 1 run.log)

-- none of these entries moves the machine
abbrev pub MovesNone : Key → List Entry → Type 0
MovesNone key entries = filter (moves key) entries ≡ []

-- the last move of a machine: it stands in the entry of this number
pub record LastMove (key : Key) (entries : List Entry) (number : ℕ) (entry : Entry) : Type 0 where
  pub before : List Entry
  pub behind : List Entry
  pub split : entries ≡ before ++ entry ∷ behind
  pub at : length before + 1 ≡ number
  pub moved : is_some (move_in key entry) ≡ true
  pub none_behind : MovesNone key behind
