use Rattle.std.proofs.Common.{Ok, Err, refl, subst}
use Rattle.dia_dict.specs.Dictionary.{known}
use Rattle.dia_msg.specs.declared.fault.MsgError.{MsgError}
use Rattle.dia_msg.specs.Reading.{IsReading, UnlessNoMemory}
use Rattle.msg_json.proofs.lines.put_json.Goals as goal

-- a command has no fault
pub returns-in-Ok : goal.returns-in-Ok
returns-in-Ok c =
    let put = c.in_ok-put_message-in-Ok.ensures in
    let read = rw c.definitions-dictionary.ensures at c.in-Ok.ensures.reading in
    (put.0, record { answer = Ok c.in-Ok.field-0; reading = read; is_refused = refl; is_line = put.1 }, put.2)

-- the line of the first fault
pub returns : goal.returns
returns c =
    let put = c.in_ok-put_message-in-Err-Fault.ensures in
    let first = rw c.definitions-dictionary.ensures at c.in-Err-Fault.ensures.reading in
    let read = subst (λ (e : MsgError). UnlessNoMemory (Err e) (IsReading (known c.args.glossary.now.definitions) c.args.octets.now)) c.in-Err-Fault.field-0-is first in
    (put.0, record { answer = Err c.in-Err-Fault.fault; reading = read; is_refused = refl; is_line = put.1 }, put.2)
