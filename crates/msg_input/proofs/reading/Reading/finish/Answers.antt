use Rattle.std.proofs.Common.{refl, sym, ◌∙◌}
use Rattle.std.proofs.lemmas.Result.{err_from_is_err_and}
use Rattle.msg_input.proofs.ReadLemmas.{Finishes-halted, ShortText-stays, WholeText-left}
use Rattle.msg_input.proofs.reading.Reading.finish.Goals as goal

-- octets are left over, and are printed as a message
pub returns-in_ok-message : goal.returns-in_ok-message
returns-in_ok-message g c = λ first text written so_far.
    let message = rw c.rest-rest.ensures at c.in_ok-message.ensures.ok in
    let empty = rw c.rest-rest.ensures at c.is_empty.ensures in
    WholeText-left (g.M.Printer.Says c.args.glossary.now c.args.line) first c.args.self.now _ _ text written _ _ so_far (sym c.is_some.ensures ∙ c.if-is_some.false) (sym empty ∙ c.if-not-is_empty.true) message.2 message.3 refl

-- memory ran out for that message
pub returns-in_err-message : goal.returns-in_err-message
returns-in_err-message g c = λ first text written so_far.
    let answer = err_from_is_err_and c.from_residual.result c.from_residual.ensures.1 in
    Finishes-halted (g.M.Printer.Says c.args.glossary.now c.args.line) first _ text written c.from_residual.result answer.0 answer.1 answer.2
    (ShortText-stays (g.M.Printer.Says c.args.glossary.now c.args.line) first c.args.self.now c.message.new.self text written so_far c.in_err-message.ensures.err)
