-- What a table holds.
use Rattle.std.specs.Prelude.{ℕ, ◌≡◌, ◌<◌, ◌≤◌, List, length, All}
use Rattle.tab_text.specs.declared.limits.TheConstants.{MAX_ROWS, MAX_STATES, MAX_KINDS, MAX_GUARDS}
use Rattle.tab_text.specs.declared.limits.TheConstants.{MAX_ACTIONS, MAX_ROW_GUARDS, MAX_ROW_ACTIONS}
use Rattle.tab_text.specs.declared.row.Row.{Row}

-- what a table holds: its names, each list in order of number, its rows, which speak of names by number, and the line
-- on which each row begins
pub record Contents : Type 0 where
  pub states : List (List ℕ)
  pub kinds : List (List ℕ)
  pub guards : List (List ℕ)
  pub actions : List (List ℕ)
  pub rows : List Row
  pub lines : List ℕ

-- a table of these parts
abbrev pub made_of : (states kinds guards actions : List (List ℕ)) → List Row → List ℕ → Contents
made_of states kinds guards actions rows lines =
    record { states = states; kinds = kinds; guards = guards; actions = actions; rows = rows; lines = lines }

-- each number of a row is a place in the list of its names, and the row has at most 4 guards and 8 actions
pub record IsRowOf (table : Contents) (row : Row) : Type 0 where
  pub state : row.state < length table.states
  pub kind : row.kind < length table.kinds
  pub guards : All (λ guard. guard < length table.guards) row.guards
  pub actions : All (λ action. action < length table.actions) row.actions
  pub next : row.next < length table.states
  pub few_guards : length row.guards ≤ MAX_ROW_GUARDS
  pub few_actions : length row.actions ≤ MAX_ROW_ACTIONS

-- a table within its limits: 1 to 4,096 rows, 64 states, 128 kinds, 64 guards, 64 actions
pub record IsTable (table : Contents) : Type 0 where
  pub some_row : 0 < length table.rows
  pub some_state : 0 < length table.states
  pub few_rows : length table.rows ≤ MAX_ROWS
  pub few_states : length table.states ≤ MAX_STATES
  pub few_kinds : length table.kinds ≤ MAX_KINDS
  pub few_guards : length table.guards ≤ MAX_GUARDS
  pub few_actions : length table.actions ≤ MAX_ACTIONS
  pub each_line : length table.lines ≡ length table.rows
  pub each_row : All (IsRowOf table) table.rows
