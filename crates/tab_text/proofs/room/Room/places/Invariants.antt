use Rattle.std.proofs.Common.{◌≡◌, map, take}
use Rattle.tab_text.specs.Rows.{place_of}
use Rattle.tab_text.specs.Reading.{octets_in}
use Rattle.tab_text.specs.Rooms.{names_in}
use Rattle.tab_text.proofs.room.Room.places.Given as goal

abbrev pub invariant-loop-name : goal.invariant-loop-name
invariant-loop-name l = l.places ≡ map (place_of (names_in l.self)) (map octets_in (take l.name-index l.names))
