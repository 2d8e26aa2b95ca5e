use Rattle.std.proofs.Common.{Some, true, false, refl, sym, arith, ◌∙◌}
use Rattle.std.proofs.lemmas.List.{append-nil, length-set}
use Rattle.dia_msg.specs.Sorting.{seen_all}
use Rattle.dia_msg.proofs.SortLemmas.{Sorts-start, none_at, next_none, next_first, next_again}
use Rattle.dia_msg.proofs.sorting.sort.Goals as goal
use Rattle.dia_msg.proofs.sorting.sort.Goals.{in-None, in-Some+then-is_none, in-Some+else-is_none+then-not-format-entry, in-Some+else-is_none+else-not-format-entry}

pub loop-place-init : goal.loop-place-init
loop-place-init c = (Sorts-start c.args.format.now (seen_all c.args.avps.now) c.clear.new.self (λ k. rw c.clear.ensures.firsts (none_at k)) c.clear.ensures.rest, rw c.clear.ensures.firsts refl, omega arith)

pub loop-place-preserved : goal.loop-place-preserved
loop-place-preserved c =
    let lt = c.loop-place-test.true in
    let fs = c.args.format.now in
    let avps = c.args.avps.now in
    let s = c.loop-place.sorted in
    let i = c.loop-place.place in
    let h = c.loop-place.invariant in
    elim c.match-entry.branch [
      | in-None w ↦ (rw w.sorted-is (next_none fs avps s _ i _ h.0 lt (c.entry_of-entry.ensures.none w.in-None.is) refl w.push.ensures.items), rw w.sorted-is h.1, rw w.next-is h.2)
      | in-Some+then-is_none w ↦ (rw w.sorted-is (next_first fs avps s _ i w.in-Some.entry _ h.0 lt c.requires.distinct w.in-Some.ensures.found (omega (arith, h.1, w.in-Some.ensures.found.0, c.requires.short)) w.if-is_none.ensures refl refl), rw w.sorted-is (length-set s.firsts w.in-Some.entry (Some i) ∙ h.1), rw w.next-is (omega (arith, w.in-Some.ensures.found.0)))
      | in-Some+else-is_none+then-not-format-entry w ↦ (rw w.sorted-is (next_again fs avps s _ i w.in-Some.entry false _ h.0 lt c.requires.distinct w.in-Some.ensures.found w.if-is_none.ensures w.if-not-format-entry.true refl w.push-then-not-format-entry.ensures.items), rw w.sorted-is h.1, rw w.next-is (omega (arith, w.in-Some.ensures.found.0)))
      | in-Some+else-is_none+else-not-format-entry w ↦ (rw w.sorted-is (next_again fs avps s _ i w.in-Some.entry true _ h.0 lt c.requires.distinct w.in-Some.ensures.found w.if-is_none.ensures w.if-not-format-entry.false refl (sym (append-nil s.rest.items))), rw w.sorted-is h.1, rw w.next-is (omega (arith, w.in-Some.ensures.found.0)))
    ]
