use Rattle.cmd_debug.proofs.SessionLemmas.{IsSession-append}
use Rattle.cmd_debug.proofs.session.SessionAnswerer.answer.Goals as goal

-- behind the lines before
pub returns-clause-answered : goal.returns-clause-answered
returns-clause-answered c = λ start before said answered. IsSession-append _ _ _ before _ said _ answered c.in_ok-answerer.ensures.0
