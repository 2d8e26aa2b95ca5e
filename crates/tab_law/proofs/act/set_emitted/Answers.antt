use Rattle.std.proofs.Common.{arith, sym, ◌∙◌}
use Rattle.std.proofs.lemmas.List.{take_more}
use Rattle.tab_law.specs.Acts.{deed_of, is_emit}
use Rattle.tab_law.specs.declared.limits.TheConstants.{MAX_EMITS}
use Rattle.tab_law.proofs.Emits.{AreGiven-more, AreGiven-other, AreGiven-full}
use Rattle.tab_law.proofs.act.set_emitted.Goals as goal
use Rattle.tab_law.proofs.act.set_emitted.Goals.{then-counted-lt-MAX_EMITS+then-is_emit, else-counted-lt-MAX_EMITS, else-counted-lt-MAX_EMITS-via-then-counted-lt-MAX_EMITS+else-is_emit, else-counted-lt-MAX_EMITS-via-else-counted-lt-MAX_EMITS}

pub loop-change-preserved : goal.loop-change-preserved
loop-change-preserved c =
    let f = deed_of c.args.scene.now c.args.new.now in
    let more = take_more _ c.loop-change.change-index c.change-item.result c.loop-change-test.true in
    elim c.if-counted-lt-MAX_EMITS.branch [
      | then-counted-lt-MAX_EMITS+then-is_emit w ↦
          rw (w.deeds-is, w.counted-is, w.emit.ensures, more, ← c.change-item.is)
          (AreGiven-more f is_emit MAX_EMITS _ _ _ _ c.loop-change.invariant w.if-counted-lt-MAX_EMITS.true (sym w.is_emit.ensures ∙ w.if-is_emit.true))
      | else-counted-lt-MAX_EMITS w ↦ elim w.else-counted-lt-MAX_EMITS.branch [
        | else-counted-lt-MAX_EMITS-via-then-counted-lt-MAX_EMITS+else-is_emit w' ↦
            rw (w.deeds-is, w.counted-is, more, ← c.change-item.is)
            (AreGiven-other f is_emit MAX_EMITS _ _ _ _ c.loop-change.invariant (sym w'.is_emit.ensures ∙ w'.if-is_emit.false))
        | else-counted-lt-MAX_EMITS-via-else-counted-lt-MAX_EMITS w' ↦
            rw (w.deeds-is, w.counted-is, more, ← c.change-item.is)
            (AreGiven-full f is_emit MAX_EMITS _ _ _ _ c.loop-change.invariant (omega (arith, w'.if-counted-lt-MAX_EMITS.false)))
      ]
    ]
