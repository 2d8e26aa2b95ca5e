-- The cells of a printed table.
use Rattle.std.specs.Prelude.{ℕ, List, [], ◌∷◌, ◌++◌, map, codes}
use Rattle.std.specs.List.{flat_map, slice_index_or}
use Rattle.tab_text.specs.Contents.{Contents}
use Rattle.tab_text.specs.declared.row.Row.{Row}
use Rattle.tab_print.specs.declared.column.Column.{Column}
use Rattle.tab_print.specs.declared.column.Column.TheVariants.{State, Event, Action, Next}

-- the word over a column
abbrev pub heading : Column → List ℕ
heading State = codes "State"
heading Event = codes "Event"
heading Action = codes "Action"
heading Next = codes "Next"

-- the name of that number in a table's list of names
abbrev pub name_at : List (List ℕ) → ℕ → List ℕ
name_at names number = slice_index_or names number []

-- each name behind the same octets
abbrev pub behind_each : List ℕ → List (List ℕ) → List ℕ
behind_each before names = flat_map (λ name. before ++ name) names

-- what stands behind a kind: nothing, or `when guard and guard`
abbrev pub condition : List (List ℕ) → List ℕ
condition [] = []
condition (guard ∷ guards) = codes " when " ++ guard ++ behind_each (codes " and ") guards

-- the names of actions with commas between, or `-` for none
abbrev pub actions_text : List (List ℕ) → List ℕ
actions_text [] = codes "-"
actions_text (action ∷ actions) = action ++ behind_each (codes ", ") actions

-- a row's cell of a column
unfoldable pub cell_text : Contents → Column → Row → List ℕ
cell_text table State row = name_at table.states row.state
cell_text table Event row = name_at table.kinds row.kind ++ condition (map (name_at table.guards) row.guards)
cell_text table Action row = actions_text (map (name_at table.actions) row.actions)
cell_text table Next row = name_at table.states row.next
