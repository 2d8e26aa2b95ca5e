use Rattle.std.proofs.Common.{inr, refl}
use Rattle.tab_walk.proofs.PourLemmas.{IsToldWith-halt, IsToldWith-run}
use Rattle.tab_walk.proofs.walk.run.Goals as goal

pub returns-in-Ok-clause-told : goal.returns-in-Ok-clause-told
returns-in-Ok-clause-told g c =
    IsToldWith-run g.O.ByteSink.contents g.O.ByteSink.failures g.O.ByteSink.idle _ _ c.args.start.now _ c.args.sink.now c.pour.new.sink c.in-Ok.ensures.poured

pub returns-in-Err-NoMemory-clause-told : goal.returns-in-Err-NoMemory-clause-told
returns-in-Err-NoMemory-clause-told g c =
    IsToldWith-halt g.O.ByteSink.contents g.O.ByteSink.failures g.O.ByteSink.idle _ _ c.args.start.now _ c.args.sink.now c.pour.new.sink c.tell_no_memory.new.sink c.tell_no_memory.result
    (rw c.in-Err-NoMemory.field-0-is at c.in-Err-NoMemory.ensures.poured) c.tell_no_memory.ensures.told

pub returns-in-Err-WriteFault-clause-told : goal.returns-in-Err-WriteFault-clause-told
returns-in-Err-WriteFault-clause-told g c =
    inr (rw c.in-Err-WriteFault.field-0-is at c.in-Err-WriteFault.ensures.poured, refl)
