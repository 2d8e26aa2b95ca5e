-- At which place of an event each fact stands.
use Rattle.std.specs.Prelude.{ℕ, ◌+◌, List, [], ◌∷◌, ◌++◌, replicate, slice_set}
use Rattle.base_codes.specs.declared.slot.TheConstants.{GROUP, USED, WANT, UNIT, RESULT_CODE, GRANTED, FINAL}
use Rattle.charge_facts.specs.declared.facts.Slot.{Slot}
use Rattle.charge_facts.specs.declared.facts.Facts.{Facts}

-- of one service of several; the units that can be paid, its last place, are filled in by who asks the book
abbrev pub slot_places : Slot → List ℕ
slot_places s =
    s.group  -- 0
    ∷ s.used  -- 1
    ∷ s.want  -- 2
    ∷ s.unit  -- 3
    ∷ s.result  -- 4
    ∷ s.granted  -- 5
    ∷ s.last  -- 6
    ∷ 0  -- 7
    ∷ []

-- the places from one on as those of a slot
abbrev pub with_slot : List ℕ → ℕ → Slot → List ℕ
with_slot places first s =
    slice_set (slice_set (slice_set (slice_set (slice_set (slice_set (slice_set places
    (first + GROUP) s.group)
    (first + USED) s.used)
    (first + WANT) s.want)
    (first + UNIT) s.unit)
    (first + RESULT_CODE) s.result)
    (first + GRANTED) s.granted)
    (first + FINAL) s.last

-- of a message itself; peer and line are filled in by who posts the event
abbrev pub message_places : Facts → List ℕ
message_places f =
    0  -- 0
    ∷ 0  -- 1
    ∷ f.hop_by_hop  -- 2
    ∷ f.end_to_end  -- 3
    ∷ f.class  -- 4
    ∷ f.request_type  -- 5
    ∷ f.request_number  -- 6
    ∷ f.account  -- 7
    ∷ f.used  -- 8
    ∷ f.want  -- 9
    ∷ f.unit  -- 10
    ∷ f.action_or_check  -- 11
    ∷ f.result  -- 12
    ∷ f.granted  -- 13
    ∷ f.last  -- 14
    ∷ 0  -- 15
    ∷ f.services  -- 16
    ∷ []

-- of all
abbrev pub places_of : Facts → List ℕ
places_of f =
    message_places f
    ++ slot_places f.slot_1  -- 17 to 24
    ++ slot_places f.slot_2  -- 25 to 32
    ++ slot_places f.slot_3  -- 33 to 40
    ++ slot_places f.slot_4  -- 41 to 48
    ++ replicate 15 0  -- 49 to 63
