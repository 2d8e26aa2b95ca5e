use Rattle.std.proofs.Common.{rules}
use Rattle.charge_session.proofs.kind.request_kind.Goals as goal

pub returns-in-Update : goal.returns-in-Update
returns-in-Update c = search rules
