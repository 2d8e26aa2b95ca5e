use Rattle.std.proofs.Common.{◌&&◌, Bool, not, true, false, ◌≡◌, refl}
use Rattle.dia_msg.proofs.SortLemmas.{no_format}
use Rattle.dia_msg.proofs.MissingLemmas.{missing_here, present_here}
use Rattle.dia_msg.proofs.sorting.Sorted.missing.Goals as goal
use Rattle.dia_msg.proofs.sorting.Sorted.missing.Goals.{else-entry-via-then-entry+else-is_none, else-entry-via-else-entry}

and_false : (a b : Bool) → b ≡ true → (a && not b) ≡ false
and_false true b e = rw e refl
and_false false b e = refl

not_required : (a b : Bool) → a ≡ false → (a && not b) ≡ false
not_required a b e = rw e refl

pub returns-then-is_none : goal.returns-then-is_none
returns-then-is_none c = λ list h. missing_here c.args.format.now list c.args.self.now c.loop-place.place no_format h c.loop-place-test.true c.if-entry.true c.if-is_none.ensures (c.loop-place.invariant list h)

pub loop-place-preserved : goal.loop-place-preserved
loop-place-preserved c = λ list h.
    elim c.else-entry.branch [
      | else-entry-via-then-entry+else-is_none w ↦ present_here c.args.format.now list c.args.self.now c.loop-place.place no_format true h c.loop-place-test.true (and_false _ _ w.if-is_none.ensures) (c.loop-place.invariant list h)
      | else-entry-via-else-entry w ↦ present_here c.args.format.now list c.args.self.now c.loop-place.place no_format true h c.loop-place-test.true (not_required _ _ w.if-entry.false) (c.loop-place.invariant list h)
    ]
