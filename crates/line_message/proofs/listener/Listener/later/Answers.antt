use Rattle.std.proofs.Common.{rules}
use Rattle.line_message.proofs.listener.Listener.later.Goals as goal

pub returns-in_ok-refusal-in-Ok-Rar : goal.returns-in_ok-refusal-in-Ok-Rar
returns-in_ok-refusal-in-Ok-Rar c = search rules
