use Rattle.std.proofs.Common.{None}
use Rattle.std.proofs.lemmas.Result.{err_from_is_err_and}
use Rattle.msg_input.proofs.ReadLemmas.{Halts-printing, Stands-more, TakesPiece-halted, TakesPiece-refused}
use Rattle.msg_input.proofs.reading.Reading.take_piece.Goals as goal

-- no fault is shown
pub returns-in-Ok-clause-stands : goal.returns-in-Ok-clause-stands
returns-in-Ok-clause-stands g c = λ first octets written stands.
    let next = c.in-Ok.ensures.joined 4096 stands.messages octets (None, stands.frames) in
    Stands-more (g.M.Printer.Says c.args.glossary.now c.args.line) first _ _ _ _ _ octets c.args.piece.now written _ stands next c.in_ok-print_waiting.ensures.printed

-- the fault is what the rest shows, or memory ran out
pub returns-in-Err-clause-stands : goal.returns-in-Err-clause-stands
returns-in-Err-clause-stands g c = λ first octets written stands.
    let next = c.in-Err.ensures.joined 4096 stands.messages octets (None, stands.frames) in
    let refused = TakesPiece-refused (g.M.Printer.Says c.args.glossary.now c.args.line) first _ _ _ _ _ octets c.args.piece.now written c.in-Err.error stands c.in-Err.ensures.feeds next c.in_ok-print_waiting.ensures.printed in
    rw c.from.ensures refused

-- memory ran out for the lines of a message
pub returns-in_err-print_waiting-clause-stands : goal.returns-in_err-print_waiting-clause-stands
returns-in_err-print_waiting-clause-stands g c = λ first octets written before.
    let answer = err_from_is_err_and c.from_residual.result c.from_residual.ensures.1 in
    let next = c.feed-fed.ensures.joined 4096 before.messages octets (None, before.frames) in
    TakesPiece-halted _ _ c.from_residual.result answer.0 answer.1 answer.2
    (Halts-printing (g.M.Printer.Says c.args.glossary.now c.args.line) first _ _ _ _ octets c.args.piece.now written c.feed-fed.result before c.feed-fed.ensures.feeds next c.in_err-print_waiting.ensures.halted)
