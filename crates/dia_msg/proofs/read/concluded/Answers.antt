use Rattle.std.proofs.Common.{◌∙◌, sym, ap, refl, Option, Err, Ok}
use Rattle.std.specs.Option.{option_map}
use Rattle.std.proofs.lemmas.Result.{err_from_is_err_and}
use Rattle.dia_avp.proofs.Bytes.{IsBytes-fits}
use Rattle.dia_dict.specs.Dictionary.{known}
use Rattle.dia_tree.specs.declared.fault.FaultView.{FaultView}
use Rattle.dia_tree.specs.View.{seen_fault}
use Rattle.dia_msg.specs.declared.fault.MsgError.TheVariants as msg_errors
use Rattle.dia_msg.specs.Faults.{is_event}
use Rattle.dia_msg.specs.Reading.{IsReading}
use Rattle.dia_msg.specs.Sorting.{seen_all}
use Rattle.dia_msg.specs.Walk.{IsErrorOf}
use Rattle.dia_msg.proofs.ReadingLaws.{inner_first, sound_as, error_reading, error_memory, surveyed, good_avps, short_avps, outcome_as, outcome_reading, outcome_may, outcome_memory, decided_made, ran_out}
use Rattle.dia_msg.proofs.read.concluded.Goals as goal

-- the fault that the error tells is the first
told : (c : goal.After-from_residual) → (f : FaultView) × IsReading (known c.args.dictionary.now) c.args.octets.now (Err (seen_fault f)) × IsErrorOf (seen_fault f) c.in_err-without_fault.field-0.0
told c =
    let h = c.requires.first in
    let e = c.in_err-without_fault.ensures.err in (
      e.0,
      inner_first (known c.args.dictionary.now) c.args.octets.now h.0 (seen_fault e.0) (IsBytes-fits _ c.type_inv.octets) c.requires.header h.1
          (ap (λ (o : Option FaultView). option_map seen_fault o) (sym e.1) ∙ h.2),
      e.2,
    )

pub returns-in_err-without_fault-clause-reading : goal.returns-in_err-without_fault-clause-reading
returns-in_err-without_fault-clause-reading c =
    let t = told c in
    let p = err_from_is_err_and c.from_residual.result c.from_residual.ensures.1 in
    rw (p.1, p.2) (error_reading (known c.args.dictionary.now) c.args.octets.now (seen_fault t.0) c.in_err-without_fault.field-0.0 t.2 t.1)

pub returns-in_err-without_fault-clause-memory : goal.returns-in_err-without_fault-clause-memory
returns-in_err-without_fault-clause-memory c = λ out.
    let t = told c in
    let p = err_from_is_err_and c.from_residual.result c.from_residual.ensures.1 in
    let ran = ran_out c.from_residual.result out in
    error_memory (known c.args.dictionary.now) c.args.octets.now (seen_fault t.0) c.in_err-without_fault.field-0.0 t.2 t.1 (cc)

-- the error that is told where the AVPs were sorted
pub returns-in_err-kind-clause-reading : goal.returns-in_err-kind-clause-reading
returns-in_err-kind-clause-reading c =
    let added = c.args.dictionary.now in
    let octets = c.args.octets.now in
    let list = seen_all c.args.avps.now in
    let clean = c.in_ok-without_fault.ensures.ok in
    let p = err_from_is_err_and c.from_residual-in_err-kind.result c.from_residual-in_err-kind.ensures.1 in
    rw (p.1, p.2) (outcome_reading added octets (Err c.in_err-kind.field-0.0) (IsBytes-fits _ c.type_inv.octets) (sound_as (known added) octets c.requires.first.0 c.args.first.now c.requires.header c.requires.first.1 c.requires.first.2 clean)
    (outcome_as added octets c.header_of-header.result list (Err c.in_err-kind.field-0.0) c.header_of-header.ensures (surveyed octets list (c.requires.avps clean)) c.in_err-kind.ensures.err))

pub returns-in_err-kind-clause-memory : goal.returns-in_err-kind-clause-memory
returns-in_err-kind-clause-memory c = λ out.
    let added = c.args.dictionary.now in
    let octets = c.args.octets.now in
    let list = seen_all c.args.avps.now in
    let clean = c.in_ok-without_fault.ensures.ok in
    let p = err_from_is_err_and c.from_residual-in_err-kind.result c.from_residual-in_err-kind.ensures.1 in
    let ran = ran_out c.from_residual-in_err-kind.result out in
    outcome_may added octets (Err c.in_err-kind.field-0.0) (sound_as (known added) octets c.requires.first.0 c.args.first.now c.requires.header c.requires.first.1 c.requires.first.2 clean)
    (outcome_as added octets c.header_of-header.result list (Err c.in_err-kind.field-0.0) c.header_of-header.ensures (surveyed octets list (c.requires.avps clean)) c.in_err-kind.ensures.err) (cc)

pub command-command-requires-clause-ready : goal.command-command-requires-clause-ready
command-command-requires-clause-ready c =
    let d = known c.args.dictionary.now in
    let octets = c.args.octets.now in
    let list = seen_all c.args.avps.now in
    let clean = c.in_ok-without_fault.ensures.ok in
    let same = surveyed octets list (c.requires.avps clean) in
    let sound = sound_as d octets c.requires.first.0 c.args.first.now c.requires.header c.requires.first.1 c.requires.first.2 clean in
    let decided = c.in_ok-kind.ensures.ok in
    record {
      event = is_event c.header_of-header.result list;
      sorted = rw (c.format_of.ensures, c.is_event-event.ensures) decided.sorted;
      complete = rw (c.format_of.ensures, c.is_event-event.ensures) decided.complete;
      good = good_avps d octets c.header_of-header.result list c.header_of-header.ensures same sound.inner;
      short = short_avps octets list (IsBytes-fits _ c.type_inv.octets) same;
    }

pub returns-then-no_memory-clause-memory : goal.returns-then-no_memory-clause-memory
returns-then-no_memory-clause-memory c = λ out.
    let added = c.args.dictionary.now in
    let octets = c.args.octets.now in
    let list = seen_all c.args.avps.now in
    let clean = c.in_ok-without_fault.ensures.ok in
    outcome_may added octets (Err msg_errors.NoMemory) (sound_as (known added) octets c.requires.first.0 c.args.first.now c.requires.header c.requires.first.1 c.requires.first.2 clean)
    (outcome_as added octets c.header_of-header.result list (Err msg_errors.NoMemory) c.header_of-header.ensures (surveyed octets list (c.requires.avps clean)) (outcome_memory added c.header_of-header.result list c.in_ok-kind.ensures.ok.clean)) refl

pub returns-clause-reading : goal.returns-clause-reading
returns-clause-reading c =
    let added = c.args.dictionary.now in
    let octets = c.args.octets.now in
    let list = seen_all c.args.avps.now in
    let header = c.header_of-header.result in
    let clean = c.in_ok-without_fault.ensures.ok in
    let made = c.command-command.result in
    let built = (c.command-command.ensures c.if-no_memory.false).1 in
    outcome_reading added octets (Ok made) (IsBytes-fits _ c.type_inv.octets) (sound_as (known added) octets c.requires.first.0 c.args.first.now c.requires.header c.requires.first.1 c.requires.first.2 clean)
    (outcome_as added octets header list (Ok made) c.header_of-header.ensures (surveyed octets list (c.requires.avps clean))
    (decided_made added header list _ c.is_event-event.result c.in_ok-kind.kind made c.is_event-event.ensures c.in_ok-kind.ensures.ok built))
