use Rattle.std.proofs.Common.{arith, length-append, refl, ◌∷◌, []}
use Rattle.std.proofs.lemmas.List.{take_more}
use Rattle.tab_law.specs.Books.{ActPermits}
use Rattle.tab_step.proofs.MoveLemmas.{Runs-more, end_of-more}
use Rattle.tab_step.proofs.stepping.act_all.Goals as goal

pub loop-place-preserved : goal.loop-place-preserved
loop-place-preserved g c = record {
  runs =
      rw (take_more c.args.actions.now c.loop-place.place-index 0 c.loop-place-test.true, c.push_copy.ensures, c.extend_from_slice.ensures, c.as_slice.ensures.value)
      (Runs-more (ActPermits c.args.registry.now.book) _ _ _ _ _ _ _ _ c.loop-place.invariant.runs (rw (← c.loop-place.invariant.end, ← c.loop-place.invariant.facts) c.act.ensures));
  end = rw (c.push_copy.ensures, end_of-more c.args.scene.now.regs c.loop-place.room.chain c.act.new.room.regs) refl;
  facts = c.loop-place.invariant.facts;
  few = rw (c.extend_from_slice.ensures, c.as_slice.ensures.value) (omega (arith, length-append c.loop-place.room.deeds c.act.new.room.deeds, c.as_slice.ensures.few, c.loop-place.invariant.few));
  each = rw c.push_copy.ensures (omega (arith, length-append c.loop-place.room.chain (c.act.new.room.regs ∷ []), c.loop-place.invariant.each));
}
