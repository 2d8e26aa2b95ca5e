use Rattle.std.proofs.Common.{◌≡◌, ◌≤◌, length, map, take}
use Rattle.tab_text.specs.Reading.{octets_in}
use Rattle.tab_text.specs.Rooms.{names_in, with_names}
use Rattle.tab_text.proofs.room.Room.add_all.Given as goal

abbrev pub invariant-loop-name : goal.invariant-loop-name
invariant-loop-name l = record {
  added : names_in l.self ≡ with_names (names_in l.initial.self) (map octets_in (take l.name-index l.names));
  room : length (names_in l.self) ≤ l.limit;
}
