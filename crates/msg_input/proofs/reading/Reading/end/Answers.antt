use Rattle.msg_input.proofs.ReadLemmas.{IsPrintedOf-refused}
use Rattle.msg_input.proofs.reading.Reading.end.Goals as goal

-- a digit is left over, or memory ran out
pub returns-in-Err-clause-printed : goal.returns-in-Err-clause-printed
returns-in-Err-clause-printed g c = λ first text written so_far.
    IsPrintedOf-refused (g.M.Printer.Says c.args.glossary.now c.args.line) first c.finish.new.self text written c.in-Err.refusal (c.in-Err.ensures first text written so_far)
