use Rattle.std.proofs.Common.{rules}
use Rattle.dia_avp.proofs.group.fault_in_group.Goals as goal

pub returns-in-TooMany : goal.returns-in-TooMany
returns-in-TooMany c = search rules
