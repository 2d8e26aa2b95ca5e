use Rattle.std.proofs.Common.{◌∙◌}
use Rattle.std.proofs.lemmas.List.{take_rest}
use Rattle.line_message.proofs.AnswerLemmas.{session-found}
use Rattle.line_message.proofs.own_answer.session_in.Goals as goal

pub returns : goal.returns
returns c =
    let found = rw (take_rest c.args.octets.now 20) at c.first_in.ensures in
    c.session_of.ensures ∙ session-found c.args.octets.now c.first_in.result c.in_ok-first_in.field-0 found c.in_ok-first_in.was
