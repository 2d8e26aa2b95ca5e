use Rattle.std.proofs.Common.{◌≡◌, ℕ, List, Ok, Err, refl, subst}
use Rattle.dia_dict.specs.declared.definition.Definition.{Definition}
use Rattle.dia_dict.specs.Dictionary.{known}
use Rattle.dia_tree.specs.declared.fault.MsgFault.{MsgFault}
use Rattle.dia_msg.specs.declared.fault.MsgError.{MsgError}
use Rattle.dia_msg.specs.declared.fault.MsgError.TheVariants as msg_errors
use Rattle.dia_msg.specs.Reading.{IsReading, UnlessNoMemory}
use Rattle.msg_text.proofs.plain.Plain.read.Goals as goal

fault_read : (d : List Definition) (octets : List ℕ) (e : MsgError) (f : MsgFault) → e ≡ msg_errors.Fault f → UnlessNoMemory (Err e) (IsReading d octets) → IsReading d octets (Err f)
fault_read d octets e f is h = subst (λ (x : MsgError). UnlessNoMemory (Err x) (IsReading d octets)) is h

-- a command and its lines
pub returns-in_ok-command-in-Ok : goal.returns-in_ok-command-in-Ok
returns-in_ok-command-in-Ok c =
    let said = c.in_ok-command-in-Ok.ensures in
    (said.0, record { answer = Ok c.in-Ok.command; reading = c.in-Ok.ensures.reading; printed = (said.1, refl) }, said.2)

-- a fault and its line
pub returns-in_ok-fault-in-Err-Fault : goal.returns-in_ok-fault-in-Err-Fault
returns-in_ok-fault-in-Err-Fault c =
    let said = c.in_ok-fault-in-Err-Fault.ensures in
    let d = c.args.definitions.now in
    let read = fault_read (known d) c.args.octets.now c.in-Err-Fault.field-0 c.in-Err-Fault.fault c.in-Err-Fault.field-0-is c.in-Err-Fault.ensures.reading in
    (said.0, record { answer = Err c.in-Err-Fault.fault; reading = read; printed = (said.1, refl) }, said.2)
