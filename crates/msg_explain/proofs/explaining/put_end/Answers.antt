use Rattle.std.proofs.Common.{◌≡◌, ◌++◌, ◌∙◌, ℕ, List, [], Ok, Err, refl, sym, ap, subst}
use Rattle.std.proofs.lemmas.List.{append-nil}
use Rattle.dia_dict.specs.declared.definition.Definition.{Definition}
use Rattle.dia_dict.specs.Dictionary.{known}
use Rattle.dia_tree.specs.declared.fault.MsgFault.{MsgFault}
use Rattle.dia_msg.specs.declared.fault.MsgError.{MsgError}
use Rattle.dia_msg.specs.declared.fault.MsgError.TheVariants as msg_errors
use Rattle.dia_msg.specs.Reading.{IsReading, UnlessNoMemory}
use Rattle.msg_explain.specs.Parts.{Piece}
use Rattle.msg_explain.specs.Faulty.{fault_line}
use Rattle.msg_explain.proofs.explaining.put_end.Goals as goal

-- what an error with a fault says of the message
is_first_fault : (d : List Definition) (octets : List ℕ) (e : MsgError) (f : MsgFault) → UnlessNoMemory (Err e) (IsReading d octets) → e ≡ msg_errors.Fault f → IsReading d octets (Err f)
is_first_fault d octets e f h is = subst (λ (x : MsgError). UnlessNoMemory (Err x) (IsReading d octets)) is h

-- a command has no fault
pub returns-in-Ok : goal.returns-in-Ok
returns-in-Ok c =
    ([], record { answer = Ok c.in-Ok.field-0; reading = c.in-Ok.ensures.reading; said = refl; is_refused = refl }, sym (append-nil c.args.out.now.items))

-- the fault's line
pub returns : goal.returns
returns c =
    let d = known c.args.dictionary.now in
    let f = c.in-Err-Fault.fault in
    let read = is_first_fault d c.args.octets.now c.in-Err-Fault.field-0 f c.in-Err-Fault.ensures.reading c.in-Err-Fault.field-0-is in
    let line = ap (λ (ps : List Piece). c.args.out.now.items ++ fault_line d c.args.line c.args.number c.args.offset ps f) c.requires in
    (_, record { answer = Err f; reading = read; said = refl; is_refused = refl }, c.in_ok-put_fault_line-in-Err-Fault.ensures ∙ line)
