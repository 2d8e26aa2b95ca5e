use Rattle.std.proofs.Common.{◌+◌, ◌-◌, length, arith}
use Rattle.dia_write.proofs.FillLemmas.{filled-put}
use Rattle.dia_write.proofs.fill.put.Goals as goal

pub returns-clause-filled : goal.returns-clause-filled
returns-clause-filled c = λ front f.
    rw c.copy_from_slice.ensures.after (filled-put c.args.room.now front c.args.octets.now c.args.at (c.args.at + length c.args.octets.now - c.args.at) (omega arith) f)
