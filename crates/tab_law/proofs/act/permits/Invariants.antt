use Rattle.std.proofs.Common.{ℕ, ◌<◌, slice_index}
use Rattle.tab_law.specs.Acts.{Allows, last_of}
use Rattle.tab_law.proofs.act.permits.Given as goal

abbrev pub invariant-loop-register : goal.invariant-loop-register
invariant-loop-register l = (n : ℕ) → n < l.register → Allows l.scene (last_of n l.law) (slice_index l.scene.regs n) (slice_index l.regs n)
