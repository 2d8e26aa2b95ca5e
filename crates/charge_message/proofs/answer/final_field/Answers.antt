use Rattle.std.proofs.Common.{rules}
use Rattle.charge_message.proofs.answer.final_field.Goals as goal

pub returns : goal.returns
returns c = search rules
