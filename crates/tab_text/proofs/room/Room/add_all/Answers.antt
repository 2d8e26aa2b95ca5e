use Rattle.std.proofs.Common.{sym}
use Rattle.tab_text.specs.Rooms.{names_in}
use Rattle.tab_text.proofs.RoomLemmas.{with_names-over}
use Rattle.tab_text.proofs.room.Room.add_all.Goals as goal

pub returns-then-not-add-clause-room : goal.returns-then-not-add-clause-room
returns-then-not-add-clause-room c =
    let full = sym c.if-not-add.ensures.room in
    sym (with_names-over (names_in c.args.self.now) c.args.names.now c.loop-name.name-index c.args.limit _ c.loop-name-test.true (rw c.loop-name.invariant.added at full))
