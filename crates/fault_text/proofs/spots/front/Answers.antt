use Rattle.std.proofs.lemmas.List.{take_min}
use Rattle.fault_text.proofs.spots.front.Goals as goal

pub returns : goal.returns
returns c = rw c.min.ensures (take_min 160 c.args.octets.now)
