use Rattle.std.proofs.Common.{Ok, Err, ap, ◌∙◌}
use Rattle.dia_dict.specs.Dictionary.{known}
use Rattle.dia_msg.specs.Reading.{IsReading}
use Rattle.msg_meaning.proofs.MeaningLaws.{meaning_is, fault_meant}
use Rattle.msg_meaning.proofs.meant.Goals as goal

pub returns-in-Ok-clause-answer : goal.returns-in-Ok-clause-answer
returns-in-Ok-clause-answer c =
    let h : IsReading (known c.args.dictionary.now) c.args.octets.now (Ok c.in-Ok.command) = c.in-Ok.ensures.reading in
    meaning_is c.args.dictionary.now c.args.octets.now (Ok c.in-Ok.command) h

pub returns-in-Err-Fault-clause-answer : goal.returns-in-Err-Fault-clause-answer
returns-in-Err-Fault-clause-answer c =
    fault_meant c.args.dictionary.now c.args.octets.now c.read_message.result c.in-Err-Fault.field-0 c.in-Err-Fault.fault c.read_message.ensures.reading c.in-Err-Fault.is c.in-Err-Fault.field-0-is

pub returns-in-Err-NoMemory-clause-memory : goal.returns-in-Err-NoMemory-clause-memory
returns-in-Err-NoMemory-clause-memory c = c.read_message.ensures.memory (c.in-Err-NoMemory.is ∙ ap Err c.in-Err-NoMemory.field-0-is)
