use Rattle.std.proofs.Common.{◌≡◌, length, sym, ap, ◌∙◌, arith, true, get_or, [], below_more}
use Rattle.std.specs.Str.{bytes_eq}
use Rattle.std.proofs.lemmas.List.{length-map}
use Rattle.tab_text.specs.Reading.{octets_in}
use Rattle.tab_text.specs.Rooms.{names_in}
use Rattle.tab_text.proofs.RoomLemmas.{place_of-at, name-found}
use Rattle.tab_text.proofs.room.Room.place.Goals as goal

pub returns-then-eq-clause-value : goal.returns-then-eq-clause-value
returns-then-eq-clause-value c =
    let room = c.args.self.now in
    let name = c.args.name.now in
    let found = name-found room.names _ c.loop-place.place _ _ c.as_slice-other-items.ensures.value c.loop-place-test.true c.as_slice.ensures.value in
    let here : bytes_eq (get_or (names_in room) c.loop-place.place []) (octets_in name) ≡ true = rw (found, ← c.as_slice-in-loop-place.ensures.value) (sym c.eq.ensures ∙ c.if-eq.true) in
    let items : c.as_slice-other-items.result.now ≡ room.names = c.as_slice-other-items.ensures.value in
    let count : length c.as_slice-other-items.result.now ≡ length room.names = ap length items in
    let below = c.loop-place-test.true in
    place_of-at (names_in room) (octets_in name) c.loop-place.place (omega (arith, below, length-map room.names octets_in, count)) c.loop-place.invariant (λ _. here)

pub loop-place-preserved : goal.loop-place-preserved
loop-place-preserved c =
    let room = c.args.self.now in
    let found = name-found room.names _ c.loop-place.place _ _ c.as_slice-other-items.ensures.value c.loop-place-test.true c.as_slice.ensures.value in
    below_more _ _ c.loop-place.invariant (rw (found, ← c.as_slice-in-loop-place.ensures.value) (sym c.eq.ensures ∙ c.if-eq.false))

pub returns-clause-value : goal.returns-clause-value
returns-clause-value c =
    let room = c.args.self.now in
    let items : c.as_slice-other-items.result.now ≡ room.names = c.as_slice-other-items.ensures.value in
    let all : length c.as_slice-other-items.result.now ≡ length room.names = ap length items in
    let past = c.loop-place-test.false in
    let count = length-map room.names octets_in in
    let at = place_of-at (names_in room) (octets_in c.args.name.now) (length room.names) (omega (arith, count)) (λ k below. c.loop-place.invariant k (omega (arith, past, all, below))) (λ inside. absurd (omega (arith, count, inside))) in
    c.len.ensures.value ∙ at
