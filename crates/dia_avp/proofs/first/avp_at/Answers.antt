use Rattle.dia_avp.proofs.Bytes.{IsBytes-fits}
use Rattle.dia_avp.proofs.FrontLaws.{front_avp, front_shorter}
use Rattle.dia_avp.proofs.first.avp_at.Goals as goal

pub returns-clause-shorter : goal.returns-clause-shorter
returns-clause-shorter c =
    front_shorter _ _ (front_avp _ _ (IsBytes-fits _ c.type_inv.octets) c.front_of.ensures)
