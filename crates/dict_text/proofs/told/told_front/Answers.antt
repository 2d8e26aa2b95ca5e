use Rattle.std.proofs.lemmas.List.{take_min}
use Rattle.dict_text.proofs.told.told_front.Goals as goal

pub returns : goal.returns
returns c = rw c.min.ensures (take_min 40 c.args.word.now)
