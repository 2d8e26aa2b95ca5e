use Rattle.std.proofs.Common.{inr, ◌≤◌, ◌+◌, refl, arith}
use Rattle.base_device.specs.declared.status.Status.TheVariants.{NoMemory}
use Rattle.msg_input.proofs.RunLemmas.{IsRun-closed, IsRun-told, IsRun-write, done-closed, usage-closed}
use Rattle.msg_input.proofs.ByLineLemmas.{HaltedLines-none}
use Rattle.msg_input.proofs.ReadLemmas.{IsReport-closed, IsReport-none}
use Rattle.msg_input.specs.ByLine.{AreLinesOf, says_by}
use Rattle.msg_input.proofs.line_read.read_lines_in.Goals as goal

-- there was no memory to begin with
pub returns-in_default-clause-run : goal.returns-in_default-clause-run
returns-in_default-clause-run g c =
    IsRun-told g.I.ByteSource.reads g.I.ByteSource.failures g.O.ByteSink.contents g.O.ByteSink.failures g.O.ByteSink.idle _ _ _ _ _ NoMemory _
    refl (λ e. cc) c.tell_no_memory.ensures.told

-- reading ended, and the last texts were handed out
pub returns-in-Ok-pour_lines-clause-run : goal.returns-in-Ok-pour_lines-clause-run
returns-in-Ok-pour_lines-clause-run g c =
    IsRun-closed g.I.ByteSource.remaining g.I.ByteSource.reads g.I.ByteSource.failures g.O.ByteSink.contents g.O.ByteSink.failures g.O.ByteSink.idle _ _ _ _ _ _ c.in-Ok-pour_lines.end _ _
    c.in-Ok-pour_lines.ensures.end c.in-Ok-pour_lines.ensures.sound.0 c.close_lines.ensures.closes

pub returns-in-Ok-pour_lines-clause-whole : goal.returns-in-Ok-pour_lines-clause-whole
returns-in-Ok-pour_lines-clause-whole g c =
    done-closed g.I.ByteSource.remaining g.I.ByteSource.reads g.I.ByteSource.failures g.O.ByteSink.contents g.O.ByteSink.failures g.O.ByteSink.idle _ _ _ _ _ c.in-Ok-pour_lines.end _ _
    c.in-Ok-pour_lines.ensures.end c.close_lines.ensures.closes

pub returns-in-Ok-pour_lines-clause-words : goal.returns-in-Ok-pour_lines-clause-words
returns-in-Ok-pour_lines-clause-words g c =
    usage-closed g.O.ByteSink.contents g.O.ByteSink.failures g.O.ByteSink.idle _ _ _ c.in-Ok-pour_lines.end _ _ c.close_lines.ensures.closes

-- a write failed
pub returns-clause-run : goal.returns-clause-run
returns-clause-run g c =
    let cause = c.in-Err.ensures.cause in
    let once : g.I.ByteSource.failures c.pour_lines.new.source ≤ g.I.ByteSource.failures c.args.source.now + 1 = let same = cause.1 in omega arith in
    IsRun-write g.I.ByteSource.reads g.I.ByteSource.failures g.O.ByteSink.failures g.O.ByteSink.idle _ _ _ _ _ once cause.0 refl

-- what was read and what was written out
pub returns-in_default-clause-report : goal.returns-in_default-clause-report
returns-in_default-clause-report g c =
    IsReport-none (AreLinesOf (says_by (g.M.Printer.Says c.args.glossary.now)) g.M.Printer.line_text) g.M.Printer.end_text g.I.ByteSource.remaining g.O.ByteSink.contents g.O.ByteSink.failures g.O.ByteSink.idle _ _ _ _ _ (HaltedLines-none (says_by (g.M.Printer.Says c.args.glossary.now)) g.M.Printer.line_text) c.tell_no_memory.ensures.told

pub returns-in-Ok-pour_lines-clause-report : goal.returns-in-Ok-pour_lines-clause-report
returns-in-Ok-pour_lines-clause-report g c =
    IsReport-closed (AreLinesOf (says_by (g.M.Printer.Says c.args.glossary.now)) g.M.Printer.line_text) g.M.Printer.end_text g.I.ByteSource.remaining g.O.ByteSink.contents g.O.ByteSink.failures g.O.ByteSink.idle _ _ _ _ _ _ _ _ c.in-Ok-pour_lines.end _
    c.in-Ok-pour_lines.ensures.report c.in-Ok-pour_lines.ensures.sound.0 c.close_lines.ensures.closes

pub returns-clause-report : goal.returns-clause-report
returns-clause-report g c = inr (c.in-Err.ensures.cause.0, refl)
