use Rattle.std.proofs.Common.{Err, Ok, refl}
use Rattle.base_device.specs.declared.status.Status.TheVariants as statuses
use Rattle.base_dialog.proofs.EndLemmas.{done_met, sound_run, unread_met, unread_of, unread_run, unread_words, wrong_run}
use Rattle.base_dialog.proofs.PourLemmas.{poured_as}
use Rattle.base_dialog.proofs.input.answer_source.Goals as goal

-- the input was read to its end
pub returns-in-Ok-Ok-clause-run : goal.returns-in-Ok-Ok-clause-run
returns-in-Ok-Ok-clause-run g c =
    let arm = c.in-Ok-Ok in
    let poured = poured_as g.T.Answerer.has_answered c.args.answerer g.I.ByteSource.remaining g.I.ByteSource.reads g.I.ByteSource.failures g.O.ByteSink.contents c.args.source.now c.pour.new.source c.args.sink.now c.pour.new.sink
    arm.field-0 (Ok tt) arm.field-0-is arm.ensures.poured in
    sound_run g.I.ByteSource.reads g.I.ByteSource.failures g.O.ByteSink.failures g.O.ByteSink.idle c.args.source.now c.pour.new.source c.args.sink.now c.pour.new.sink statuses.Done
    poured.read.sound arm.ensures.sound.0 (λ h. cc)

pub returns-in-Ok-Ok-clause-as_asked : goal.returns-in-Ok-Ok-clause-as_asked
returns-in-Ok-Ok-clause-as_asked g c = λ fault.
    let arm = c.in-Ok-Ok in
    let poured = poured_as g.T.Answerer.has_answered c.args.answerer g.I.ByteSource.remaining g.I.ByteSource.reads g.I.ByteSource.failures g.O.ByteSink.contents c.args.source.now c.pour.new.source c.args.sink.now c.pour.new.sink
    arm.field-0 (Ok tt) arm.field-0-is arm.ensures.poured in
    done_met g.T.Answerer.has_answered c.args.answerer g.I.ByteSource.remaining g.I.ByteSource.failures g.O.ByteSink.contents g.O.ByteSink.failures g.O.ByteSink.idle c.args.source.now c.pour.new.source c.args.sink.now c.pour.new.sink
    poured arm.ensures.sound.0 arm.ensures.sound.1

-- memory ran out, or it can't be read
pub returns-in-Ok-Err-clause-run : goal.returns-in-Ok-Err-clause-run
returns-in-Ok-Err-clause-run g c =
    let arm = c.in-Ok-Err in
    let poured = poured_as g.T.Answerer.has_answered c.args.answerer g.I.ByteSource.remaining g.I.ByteSource.reads g.I.ByteSource.failures g.O.ByteSink.contents c.args.source.now c.pour.new.source c.args.sink.now c.pour.new.sink
    arm.field-0 (Err arm.why) arm.field-0-is arm.ensures.poured in
    unread_run g.I.ByteSource.reads g.I.ByteSource.failures g.O.ByteSink.contents g.O.ByteSink.failures g.O.ByteSink.idle c.args.source.now c.pour.new.source c.args.sink.now c.pour.new.sink c.tell_unread-in-Ok-Err.new.sink arm.why c.tell_unread-in-Ok-Err.result
    arm.ensures.sound.0 c.tell_unread-in-Ok-Err.ensures.told
    (unread_of g.T.Answerer.has_answered c.args.answerer g.I.ByteSource.remaining g.I.ByteSource.reads g.I.ByteSource.failures g.O.ByteSink.contents c.args.source.now c.pour.new.source c.args.sink.now c.pour.new.sink arm.why poured)

pub returns-in-Ok-Err-clause-as_asked : goal.returns-in-Ok-Err-clause-as_asked
returns-in-Ok-Err-clause-as_asked g c = λ unlike.
    let arm = c.in-Ok-Err in
    let poured = poured_as g.T.Answerer.has_answered c.args.answerer g.I.ByteSource.remaining g.I.ByteSource.reads g.I.ByteSource.failures g.O.ByteSink.contents c.args.source.now c.pour.new.source c.args.sink.now c.pour.new.sink
    arm.field-0 (Err arm.why) arm.field-0-is arm.ensures.poured in
    unread_met g.T.Answerer.has_answered c.args.answerer g.I.ByteSource.remaining g.I.ByteSource.reads g.I.ByteSource.failures g.O.ByteSink.contents g.O.ByteSink.failures g.O.ByteSink.idle c.args.source.now c.pour.new.source c.args.sink.now c.pour.new.sink
    c.tell_unread-in-Ok-Err.new.sink arm.why c.tell_unread-in-Ok-Err.result poured arm.ensures.sound.0 c.tell_unread-in-Ok-Err.ensures.told unlike

pub returns-in-Ok-Err-clause-words : goal.returns-in-Ok-Err-clause-words
returns-in-Ok-Err-clause-words g c =
    unread_words g.O.ByteSink.contents g.O.ByteSink.failures g.O.ByteSink.idle c.pour.new.sink c.tell_unread-in-Ok-Err.new.sink c.in-Ok-Err.why c.tell_unread-in-Ok-Err.result c.tell_unread-in-Ok-Err.ensures.told

-- a write failed
pub returns-clause-run : goal.returns-clause-run
returns-clause-run g c =
    wrong_run g.I.ByteSource.reads g.I.ByteSource.failures g.O.ByteSink.failures g.O.ByteSink.idle c.args.source.now c.pour.new.source c.args.sink.now c.pour.new.sink statuses.Fault
    c.in-Err.ensures.cause.1 c.in-Err.ensures.cause.0 refl
