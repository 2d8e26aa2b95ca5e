use Rattle.std.proofs.Common.{ℕ, refl}
use Rattle.std.proofs.lemmas.List.{take-replicate}
use Rattle.dia_tree.proofs.zeros.zeros.Goals as goal

pub returns : goal.returns
returns c = rw (take-replicate {X = ℕ} c.args.size 8 0 c.requires) refl
