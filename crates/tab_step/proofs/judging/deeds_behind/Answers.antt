use Rattle.std.proofs.Common.{take, sym, refl, true≢false}
use Rattle.std.proofs.lemmas.List.{take_rest, take-append-drop}
use Rattle.tab_step.proofs.MoveLemmas.{emits-short, emits-front}
use Rattle.tab_step.proofs.judging.deeds_behind.Goals as goal

pub returns-then-deeds-count-clause-none : goal.returns-then-deeds-count-clause-none
returns-then-deeds-count-clause-none c =
    emits-short c.args.law.now c.args.scene.now c.args.after.now c.args.deeds.now c.len-count.result (rw c.emitted.ensures at c.len-count.ensures.value) c.if-deeds-count.true

pub returns-then-permits-clause-some : goal.returns-then-permits-clause-some
returns-then-permits-clause-some c =
    rw (take_rest c.args.deeds.now c.len-count.result)
    (take c.len-count.result c.args.deeds.now, c.if-permits.ensures.0 refl, sym (take-append-drop c.len-count.result c.args.deeds.now))

pub returns-else-permits-clause-none : goal.returns-else-permits-clause-none
returns-else-permits-clause-none c own rest permits joined =
    true≢false (sym (c.if-permits.ensures.1 (emits-front c.args.law.now c.args.scene.now c.args.after.now c.args.deeds.now c.len-count.result (rw c.emitted.ensures at c.len-count.ensures.value) own rest permits joined)))
