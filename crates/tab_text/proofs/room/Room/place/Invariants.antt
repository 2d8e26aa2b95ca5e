use Rattle.std.proofs.Common.{◌≡◌, ℕ, ◌<◌, false, get_or, []}
use Rattle.std.specs.Str.{bytes_eq}
use Rattle.tab_text.specs.Reading.{octets_in}
use Rattle.tab_text.specs.Rooms.{names_in}
use Rattle.tab_text.proofs.room.Room.place.Given as goal

abbrev pub invariant-loop-place : goal.invariant-loop-place
invariant-loop-place l = (k : ℕ) → k < l.place → bytes_eq (get_or (names_in l.self) k []) (octets_in l.name) ≡ false
