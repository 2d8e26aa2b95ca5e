use Rattle.std.proofs.Common.{◌≡◌, ◌+◌, ◌∙◌, ◌++◌, ◌∷◌, [], Bool, ℕ, List, Option, sym, ap, arith, append_assoc, filter}
use Rattle.std.specs.Prelude.{if◌then◌else◌}
use Rattle.std.proofs.lemmas.List.{length-append}
use Rattle.dia_avp.specs.Look.{is_coded}
use Rattle.dia_msg.specs.Sorting.{seen_all}
use Rattle.dia_msg.specs.Walk.{groups_in}
use Rattle.dia_msg.proofs.ServiceLemmas.{next_group, next_other, too_many, met, once, to_come}
use Rattle.dia_msg.proofs.services.are_faulty.Goals as goal
use Rattle.dia_msg.proofs.services.are_faulty.Goals.{then-event, else-event, then-len-most-via-then-len-most, then-len-most-via-else-len-most+then-has, then-is_coded+else-len-most+else-has, else-is_coded}

abbrev most_of : Bool → ℕ
most_of event = if event then 0 else 4

pub returns-then-len-most : goal.returns-then-len-most
returns-then-len-most c =
    let avps = c.args.avps.now in
    let i = c.loop-avp.avp-index in
    let groups : List (Option ℕ) = c.loop-avp.groups in
    let g = c.group_of-group.result in
    let all : groups_in (filter (is_coded 456) (seen_all avps)) ≡ groups ++ g ∷ to_come avps (i + 1) =
    c.loop-avp.invariant.0 ∙ ap (λ (l : List (Option ℕ)). groups ++ l) (next_group avps i _ c.loop-avp-test.true (sym c.if-is_coded.ensures) ∙ ap (λ (x : Option ℕ). x ∷ to_come avps (i + 1)) (sym c.group_of-group.ensures)) in
    let most : c.if-event.most ≡ most_of c.args.event =
    elim c.if-event.branch [
      | then-event w ↦ rw w.if-event.true w.most-is
      | else-event w ↦ rw w.if-event.false w.most-is
    ] in
    elim c.then-len-most.branch [
      | then-len-most-via-then-len-most w ↦ rw all (sym (too_many (most_of c.args.event) groups (to_come avps (i + 1)) g (omega (arith, w.if-len-most.true, c.len.ensures.value, most))))
      | then-len-most-via-else-len-most+then-has w ↦ rw all (sym (met (most_of c.args.event) groups (to_come avps (i + 1)) g (rw w.as_slice.ensures.value at (sym w.has.ensures ∙ w.if-has.true))))
    ]

pub loop-avp-preserved : goal.loop-avp-preserved
loop-avp-preserved c =
    let avps = c.args.avps.now in
    let i = c.loop-avp.avp-index in
    let groups : List (Option ℕ) = c.loop-avp.groups in
    let h = c.loop-avp.invariant in
    elim c.if-is_coded.branch [
      | then-is_coded+else-len-most+else-has w ↦
          let g = w.group_of-group.result in (
            rw (w.groups-is, w.push.ensures) (h.0 ∙ ap (λ (l : List (Option ℕ)). groups ++ l) (next_group avps i _ c.loop-avp-test.true (sym w.if-is_coded.ensures) ∙ ap (λ (x : Option ℕ). x ∷ to_come avps (i + 1)) (sym w.group_of-group.ensures)) ∙ sym (append_assoc groups (g ∷ []) (to_come avps (i + 1)))),
            rw (w.groups-is, w.push.ensures) (once groups g h.1 (rw w.as_slice.ensures.value at (sym w.has.ensures ∙ w.if-has.false))),
            rw (w.groups-is, w.push.ensures) (omega (arith, length-append groups (g ∷ []), w.if-len-most.false, w.len.ensures.value)),
          )
      | else-is_coded w ↦ (rw w.groups-is (h.0 ∙ ap (λ (l : List (Option ℕ)). groups ++ l) (next_other avps i _ c.loop-avp-test.true (sym c.is_coded.ensures ∙ w.if-is_coded.false))), rw w.groups-is h.1, rw w.groups-is h.2)
    ]
