use Rattle.std.proofs.Common.{rules}
use Rattle.dia_frame.proofs.framer.Framer.rest_len.Goals as goal

pub returns : goal.returns
returns c = search rules
