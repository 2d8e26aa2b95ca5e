-- Names as rooms hold them.
use Rattle.std.specs.Prelude.{ℕ, nat_lt, List, [], ◌∷◌, ◌++◌, length, map, fold, if◌then◌else◌}
use Rattle.tab_text.specs.Cells.{NamedRow}
use Rattle.tab_text.specs.Rows.{Names, place_of}
use Rattle.tab_text.specs.Reading.{octets_in}
use Rattle.tab_text.specs.declared.room.Room.{Room}
use Rattle.tab_text.specs.declared.room.Rooms.{Rooms}

-- the names in a room
abbrev pub names_in : Room → List (List ℕ)
names_in room = map octets_in room.names

-- names with one more behind them, where it isn't there yet
abbrev pub with_name : List (List ℕ) → List ℕ → List (List ℕ)
with_name names name = if nat_lt (place_of names name) (length names) then names else names ++ name ∷ []

-- names with each of these
abbrev pub with_names : List (List ℕ) → List (List ℕ) → List (List ℕ)
with_names names more = fold with_name names more

-- the names in rooms
abbrev pub rooms_names : Rooms → Names
rooms_names rooms = record {
  states = names_in rooms.states;
  kinds = names_in rooms.kinds;
  guards = names_in rooms.guards;
  actions = names_in rooms.actions;
}

-- names with those of one more row
unfoldable pub with_row : Names → NamedRow → Names
with_row names row = record {
  states = with_names names.states (row.state ∷ row.next ∷ []);
  kinds = with_name names.kinds row.kind;
  guards = with_names names.guards row.guards;
  actions = with_names names.actions row.actions;
}
