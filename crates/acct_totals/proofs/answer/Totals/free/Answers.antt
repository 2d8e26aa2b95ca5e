use Rattle.std.proofs.Common.{rules}
use Rattle.acct_totals.proofs.answer.Totals.free.Goals as goal

pub returns : goal.returns
returns c = search rules
