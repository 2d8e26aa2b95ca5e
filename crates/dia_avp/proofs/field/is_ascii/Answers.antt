use Rattle.dia_avp.proofs.FieldLaws.{all_ascii, any_ascii}
use Rattle.dia_avp.proofs.field.is_ascii.Goals as goal

pub returns-clause-all : goal.returns-clause-all
returns-clause-all c = λ e. all_ascii c.is_ascii.result c.args.octets.now c.is_ascii.ensures.cases e

pub returns-clause-any : goal.returns-clause-any
returns-clause-any c = λ e. any_ascii c.is_ascii.result c.args.octets.now c.is_ascii.ensures.cases e
