use Rattle.std.proofs.Common.{◌≡◌, ◌∙◌, ap, List, ℕ, subst}
use Rattle.std.specs.Prelude.{IfOk}
use Rattle.std.specs.Option.{option_copied}
use Rattle.line_message.specs.Answers.{answer_octets}
use Rattle.line_message.specs.Hearing.{Hearing}
use Rattle.line_message.proofs.AnswerLemmas.{answer-made, answer-refused}
use Rattle.line_message.proofs.listener.Listener.answer.Goals as goal

pub returns-in-Ok : goal.returns-in-Ok
returns-in-Ok c =
    let made = answer-made c.self.inside.identity c.args.octets.now c.args.fault.now (option_copied c.session_in.result) c.error_answer.result c.in-Ok.answer
    c.error_answer.ensures.too_long c.in-Ok.is (rw c.header_of.ensures at c.in-Ok.ensures.answer) c.session_in.ensures in
    let own = made ∙ ap (λ (h : Hearing). answer_octets h.identity c.args.octets.now c.args.fault.now) c.self.view_is in
    subst (λ (x : List ℕ). IfOk c.octets_of.result (λ answer. answer ≡ x)) own c.octets_of.ensures

pub returns-in-Err-LengthOver24Bits : goal.returns-in-Err-LengthOver24Bits
returns-in-Err-LengthOver24Bits c =
    c.new-in-Err-LengthOver24Bits.ensures
    ∙ (c.new.ensures.items
    ∙ answer-refused c.args.self.now.identity c.args.octets.now c.args.fault.now c.error_answer.result c.in-Err-LengthOver24Bits.field-0 c.error_answer.ensures.too_long c.in-Err-LengthOver24Bits.is c.in-Err-LengthOver24Bits.field-0-is)
