use Rattle.std.proofs.Common.{◌<◌, ℕ, map}
use Rattle.bench_looks.specs.Parts.{DeskIsRight}
use Rattle.bench_parts.specs.Views.{kept_in}
use Rattle.bench_looks.proofs.right.are_right.Given as goal

-- each look of the desks so far is right
abbrev pub invariant-loop-desk : goal.invariant-loop-desk
invariant-loop-desk l = (desk : ℕ) → desk < l.desk → DeskIsRight l.core.settings (map kept_in l.parts) desk
