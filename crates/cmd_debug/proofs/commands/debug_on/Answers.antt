use Rattle.std.proofs.Common.{refl}
use Rattle.cmd_bench.specs.Told.{opened_with}
use Rattle.cmd_debug.proofs.OpenedLemmas.{ready_of}
use Rattle.cmd_debug.proofs.ToldLemmas.{replies_on}
use Rattle.cmd_debug.proofs.commands.debug_on.Goals as goal

-- the bench is run by as many registries as it was opened with
pub answer_input-requires-clause-stands : goal.answer_input-requires-clause-stands
answer_input-requires-clause-stands g c =
    rw c.count_of-count.ensures (ready_of _ _ _ _ _ c.in-Ok-Ready.field-0-is c.in-Ok-Ready.ensures).1

pub answer_input-requires-clause-start : goal.answer_input-requires-clause-start
answer_input-requires-clause-start g c = (refl, refl)

-- commands are done
pub returns-in-Ok-Ready-clause-as_asked : goal.returns-in-Ok-Ready-clause-as_asked
returns-in-Ok-Ready-clause-as_asked g c = λ unlike.
    let ready = ready_of _ _ _ _ _ c.in-Ok-Ready.field-0-is c.in-Ok-Ready.ensures in
    replies_on g.I.ByteSource.remaining g.I.ByteSource.reads g.I.ByteSource.failures g.O.ByteSink.contents g.O.ByteSink.failures
    g.O.ByteSink.idle (opened_with c.args.config) c.args.script.now _ c.args.source.now c.answer_input.new.source c.args.sink.now
    c.answer_input.new.sink c.answer_input.result ready.0 ready.2 (c.answer_input.ensures.as_asked unlike)
