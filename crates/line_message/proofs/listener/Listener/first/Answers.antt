use Rattle.std.proofs.Common.{rules}
use Rattle.line_message.proofs.listener.Listener.first.Goals as goal

pub returns-in-Ok : goal.returns-in-Ok
returns-in-Ok c = search rules
