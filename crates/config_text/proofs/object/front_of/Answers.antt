use Rattle.std.proofs.lemmas.List.{take_min}
use Rattle.config_text.proofs.object.front_of.Goals as goal

pub returns-clause-front : goal.returns-clause-front
returns-clause-front c = rw c.min.ensures (take_min _ _)
