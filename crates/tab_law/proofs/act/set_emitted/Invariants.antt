use Rattle.std.proofs.Common.{take}
use Rattle.tab_law.specs.Acts.{deed_of, is_emit}
use Rattle.tab_law.specs.declared.limits.TheConstants.{MAX_EMITS}
use Rattle.tab_law.proofs.Emits.{AreGiven}
use Rattle.tab_law.proofs.act.set_emitted.Given as goal

abbrev pub invariant-loop-change : goal.invariant-loop-change
invariant-loop-change l = AreGiven (deed_of l.scene l.new) is_emit MAX_EMITS (take l.change-index l.change-items) l.deeds l.counted
