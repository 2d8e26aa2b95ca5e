use Rattle.std.proofs.Common.{refl}
use Rattle.dia_avp.proofs.GroupLaws.{group_fault-none}
use Rattle.dia_avp.proofs.avp.AvpView.as_group.Goals as goal

pub returns-clause-value : goal.returns-clause-value
returns-clause-value c = (refl, c.in_ok-group_count.ensures.whole.0, c.in_ok-group_count.ensures.whole.2)

pub returns-clause-whole : goal.returns-clause-whole
returns-clause-whole c =
    group_fault-none c.args.self.now.octets.now c.args.depth c.in_ok-group_count.ensures.whole.0 c.in_ok-group_count.ensures.whole.2
