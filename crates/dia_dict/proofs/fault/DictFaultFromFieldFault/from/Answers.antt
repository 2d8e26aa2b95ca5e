use Rattle.std.proofs.Common.{rules}
use Rattle.dia_dict.proofs.fault.DictFaultFromFieldFault.from.Goals as goal

pub returns-in-BadLength : goal.returns-in-BadLength
returns-in-BadLength c = search rules
