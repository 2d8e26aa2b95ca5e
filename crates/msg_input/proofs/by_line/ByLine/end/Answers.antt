use Rattle.msg_input.proofs.ByLineLemmas.{AreFinished-ended}
use Rattle.msg_input.specs.ByLine.{says_by}
use Rattle.msg_input.proofs.by_line.ByLine.end.Goals as goal

-- the last line ended, or memory ran out
pub returns : goal.returns
returns g c = λ text written so_far.
    AreFinished-ended (says_by (g.M.Printer.Says c.args.glossary.now)) g.M.Printer.line_text c.args.self.now c.end_line.new.self text written c.end_line.result so_far c.end_line.ensures.ended c.end_line.ensures.err
