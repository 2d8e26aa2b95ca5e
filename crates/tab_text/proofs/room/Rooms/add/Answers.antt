use Rattle.std.proofs.Common.{sym, ◌∙◌}
use Rattle.tab_text.specs.Rooms.{rooms_names, with_row}
use Rattle.tab_text.specs.Reading.{named}
use Rattle.tab_text.proofs.RoomsLemmas.{fits-from, no-room-states, no-room-kinds, no-room-guards, room-actions, with_row-from}
use Rattle.tab_text.proofs.room.Rooms.add.Goals as goal

pub add_all-requires-clause-room : goal.add_all-requires-clause-room
add_all-requires-clause-room c = (fits-from (rooms_names c.args.self.now) c.requires).states

pub add-requires-clause-room : goal.add-requires-clause-room
add-requires-clause-room c = (fits-from (rooms_names c.args.self.now) c.requires).kinds

pub add_all-requires-2-clause-room : goal.add_all-requires-2-clause-room
add_all-requires-2-clause-room c = (fits-from (rooms_names c.args.self.now) c.requires).guards

pub add_all-requires-3-clause-room : goal.add_all-requires-3-clause-room
add_all-requires-3-clause-room c = (fits-from (rooms_names c.args.self.now) c.requires).actions

pub returns-then-not-add_all-clause-room : goal.returns-then-not-add_all-clause-room
unfolding with_row
returns-then-not-add_all-clause-room c =
    sym (no-room-states (with_row (rooms_names c.args.self.now) (named c.args.row.now)) (sym c.if-not-add_all.ensures.room))

pub returns-then-not-add-clause-room : goal.returns-then-not-add-clause-room
unfolding with_row
returns-then-not-add-clause-room c =
    sym (no-room-kinds (with_row (rooms_names c.args.self.now) (named c.args.row.now)) (sym c.if-not-add.ensures.room))

pub returns-then-not-add_all-2-clause-room : goal.returns-then-not-add_all-2-clause-room
unfolding with_row
returns-then-not-add_all-2-clause-room c =
    let full = sym c.if-not-add_all-2.ensures.room in
    sym (no-room-guards (with_row (rooms_names c.args.self.now) (named c.args.row.now)) (rw c.as_slice.ensures.value at full))

pub returns-clause-room : goal.returns-clause-room
unfolding with_row
returns-clause-room c =
    let guards = sym c.if-not-add_all-2.ensures.room in
    let actions = c.add_all-3.ensures.room in
    rw c.as_slice-2.ensures.value at actions ∙ sym (room-actions (with_row (rooms_names c.args.self.now) (named c.args.row.now)) (sym c.if-not-add_all.ensures.room) (sym c.if-not-add.ensures.room) (rw c.as_slice.ensures.value at guards))

pub returns-clause-added : goal.returns-clause-added
returns-clause-added c =
    let guards = c.if-not-add_all-2.ensures.added in
    let actions = c.add_all-3.ensures.added in
    with_row-from (rooms_names c.args.self.now) (named c.args.row.now) _ _ _ _ c.add_all-3.result c.if-not-add_all.ensures.added c.if-not-add.ensures.added (rw c.as_slice.ensures.value at guards) (rw c.as_slice-2.ensures.value at actions)
