use Rattle.std.proofs.Common.{arith}
use Rattle.text_parts.proofs.lines.Lines.next.Goals as goal

pub overflow_add-self : goal.overflow_add-self
overflow_add-self c = omega (arith, c.in_ok-octets.ensures.piece.from, c.next.ensures.fits)
