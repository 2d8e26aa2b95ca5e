use Rattle.dia_avp.proofs.Bytes.{IsBytes-fits}
use Rattle.dia_avp.proofs.FrontLaws.{front_avp, front_shorter, front_broken, only_front, front_parts, front_left}
use Rattle.dia_avp.proofs.first.first_avp.Goals as goal

pub returns-clause-avp : goal.returns-clause-avp
returns-clause-avp c = front_avp c.args.octets.now c.front_of.result (IsBytes-fits _ c.type_inv.octets) c.front_of.ensures

pub returns-clause-shorter : goal.returns-clause-shorter
returns-clause-shorter c = front_shorter c.args.octets.now c.front_of.result (front_avp c.args.octets.now c.front_of.result (IsBytes-fits _ c.type_inv.octets) c.front_of.ensures)

pub returns-clause-broken : goal.returns-clause-broken
returns-clause-broken c = front_broken c.args.octets.now c.front_of.result c.front_of.ensures

pub returns-clause-only : goal.returns-clause-only
returns-clause-only c = only_front c.args.octets.now c.front_of.result c.front_of.ensures

pub returns-clause-parts : goal.returns-clause-parts
returns-clause-parts c = front_parts c.args.octets.now c.front_of.result c.front_of.ensures

pub returns-clause-left : goal.returns-clause-left
returns-clause-left c = front_left c.args.octets.now c.front_of.result c.front_of.ensures
