use Rattle.std.proofs.Common.{◌≡◌, map, take}
use Rattle.tab_text.specs.Reading.{octets_in}
use Rattle.tab_text.proofs.room.Room.copied.Given as goal

abbrev pub invariant-loop-name : goal.invariant-loop-name
invariant-loop-name l = l.names.items ≡ map octets_in (take l.name-index l.name-items)
