use Rattle.std.proofs.Common.{sym, ◌∙◌}
use Rattle.line_message.proofs.AnswerLemmas.{session-empty, session-long, session-is, session-other}
use Rattle.line_message.proofs.own_answer.session_of.Goals as goal

pub returns-then-is_empty : goal.returns-then-is_empty
returns-then-is_empty c = session-empty c.args.octets.now (sym c.is_empty.ensures ∙ c.if-is_empty.true)

pub returns-then-octets-gt-MAX_SESSION : goal.returns-then-octets-gt-MAX_SESSION
returns-then-octets-gt-MAX_SESSION c = session-long c.args.octets.now c.if-octets-gt-MAX_SESSION.true

pub returns-in-Ok : goal.returns-in-Ok
returns-in-Ok c =
    session-is c.args.octets.now c.in-Ok.session.now (sym c.is_empty.ensures ∙ c.if-is_empty.false) c.if-octets-gt-MAX_SESSION.false c.in-Ok.ensures.cases.0 c.in-Ok.ensures.cases.1

pub returns-in-Err : goal.returns-in-Err
returns-in-Err c = session-other c.args.octets.now c.in-Err.ensures.cases.0
