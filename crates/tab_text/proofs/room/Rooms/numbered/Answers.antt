use Rattle.tab_text.specs.Reading.{named}
use Rattle.tab_text.specs.Rooms.{rooms_names}
use Rattle.tab_text.proofs.RoomsLemmas.{numbered-from}
use Rattle.tab_text.proofs.room.Rooms.numbered.Goals as goal

pub returns : goal.returns
returns c =
    let guards = c.places.ensures in
    let actions = c.places-2.ensures in
    numbered-from (rooms_names c.args.self.now) (named c.args.row.now) _ _ _ _ _ c.place.ensures.value c.place-2.ensures.value (rw c.as_slice.ensures.value at guards) (rw c.as_slice-2.ensures.value at actions) c.place-3.ensures.value
