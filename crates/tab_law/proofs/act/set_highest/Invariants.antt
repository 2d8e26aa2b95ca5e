use Rattle.std.proofs.Common.{take}
use Rattle.tab_law.specs.Acts.{IsAtHighest}
use Rattle.tab_law.proofs.act.set_highest.Given as goal

abbrev pub invariant-loop-change : goal.invariant-loop-change
invariant-loop-change l = IsAtHighest (take l.change-index l.change-items) l.scene l.regs
