use Rattle.std.proofs.Common.{inr, ◌≤◌, ◌+◌, refl, arith, None}
use Rattle.base_device.specs.declared.status.Status.TheVariants.{NoMemory}
use Rattle.msg_input.proofs.RunLemmas.{IsRun-closed, IsRun-told, IsRun-write, done-closed, usage-closed}
use Rattle.msg_input.proofs.ReadLemmas.{HaltedText-none, IsReport-closed, IsReport-none}
use Rattle.msg_input.specs.Inputs.{IsPrintedOf}
use Rattle.msg_input.proofs.read.read_in.Goals as goal

-- there was no memory to begin with
pub returns-in_default-clause-run : goal.returns-in_default-clause-run
returns-in_default-clause-run g c =
    IsRun-told g.I.ByteSource.reads g.I.ByteSource.failures g.O.ByteSink.contents g.O.ByteSink.failures g.O.ByteSink.idle _ _ _ _ _ NoMemory _
    refl (λ e. cc) c.tell_no_memory.ensures.told

-- reading ended, and the last texts were handed out
pub returns-in-Ok-pour-clause-run : goal.returns-in-Ok-pour-clause-run
returns-in-Ok-pour-clause-run g c =
    IsRun-closed g.I.ByteSource.remaining g.I.ByteSource.reads g.I.ByteSource.failures g.O.ByteSink.contents g.O.ByteSink.failures g.O.ByteSink.idle _ _ _ _ _ _ c.in-Ok-pour.end _ _
    c.in-Ok-pour.ensures.end c.in-Ok-pour.ensures.sound.0 c.close.ensures.closes

pub returns-in-Ok-pour-clause-whole : goal.returns-in-Ok-pour-clause-whole
returns-in-Ok-pour-clause-whole g c =
    done-closed g.I.ByteSource.remaining g.I.ByteSource.reads g.I.ByteSource.failures g.O.ByteSink.contents g.O.ByteSink.failures g.O.ByteSink.idle _ _ _ _ _ c.in-Ok-pour.end _ _
    c.in-Ok-pour.ensures.end c.close.ensures.closes

pub returns-in-Ok-pour-clause-words : goal.returns-in-Ok-pour-clause-words
returns-in-Ok-pour-clause-words g c =
    usage-closed g.O.ByteSink.contents g.O.ByteSink.failures g.O.ByteSink.idle _ _ _ c.in-Ok-pour.end _ _ c.close.ensures.closes

-- a write failed
pub returns-clause-run : goal.returns-clause-run
returns-clause-run g c =
    let cause = c.in-Err.ensures.cause in
    let once : g.I.ByteSource.failures c.pour.new.source ≤ g.I.ByteSource.failures c.args.source.now + 1 = let same = cause.1 in omega arith in
    IsRun-write g.I.ByteSource.reads g.I.ByteSource.failures g.O.ByteSink.failures g.O.ByteSink.idle _ _ _ _ _ once cause.0 refl

-- what was read and what was written out
pub returns-in_default-clause-report : goal.returns-in_default-clause-report
returns-in_default-clause-report g c =
    IsReport-none (IsPrintedOf (g.M.Printer.Says c.args.glossary.now None) 0) g.M.Printer.end_text g.I.ByteSource.remaining g.O.ByteSink.contents g.O.ByteSink.failures g.O.ByteSink.idle _ _ _ _ _ (HaltedText-none (g.M.Printer.Says c.args.glossary.now None) 0) c.tell_no_memory.ensures.told

pub returns-in-Ok-pour-clause-report : goal.returns-in-Ok-pour-clause-report
returns-in-Ok-pour-clause-report g c =
    IsReport-closed (IsPrintedOf (g.M.Printer.Says c.args.glossary.now None) 0) g.M.Printer.end_text g.I.ByteSource.remaining g.O.ByteSink.contents g.O.ByteSink.failures g.O.ByteSink.idle _ _ _ _ _ _ _ _ c.in-Ok-pour.end _
    c.in-Ok-pour.ensures.report c.in-Ok-pour.ensures.sound.0 c.close.ensures.closes

pub returns-clause-report : goal.returns-clause-report
returns-clause-report g c = inr (c.in-Err.ensures.cause.0, refl)
