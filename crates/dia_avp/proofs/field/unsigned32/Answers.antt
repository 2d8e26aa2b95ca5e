use Rattle.std.proofs.Common.{arith}
use Rattle.dia_avp.proofs.Bytes.{IsBytes-fits, unsigned32}
use Rattle.dia_avp.proofs.field.unsigned32.Goals as goal

pub returns-clause-value : goal.returns-clause-value
returns-clause-value c = unsigned32 c.args.octets.now c.read_u32.result (omega arith) (IsBytes-fits _ c.type_inv.octets) c.read_u32.ensures
