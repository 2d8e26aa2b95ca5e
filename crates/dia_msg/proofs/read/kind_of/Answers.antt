use Rattle.std.proofs.Common.{◌≡◌, ◌∙◌, [], sym, ap, refl, Option, Some, None}
use Rattle.std.specs.Prelude.{slice_get}
use Rattle.dia_dict.specs.Dictionary.{known}
use Rattle.dia_tree.specs.declared.fault.MsgFault.{MsgFault}
use Rattle.dia_tree.specs.Faults.{fault}
use Rattle.dia_tree.specs.View.{seen_fault}
use Rattle.base_codes.specs.declared.result_code.ResultCode.TheVariants.{UnableToComply}
use Rattle.dia_command.specs.Format.{format_of}
use Rattle.dia_msg.specs.Taken.{missing}
use Rattle.dia_msg.specs.Faults.{is_event, has_services}
use Rattle.dia_msg.specs.Sorting.{seen_all}
use Rattle.dia_msg.specs.Walk.{later_faults}
use Rattle.dia_msg.proofs.ReadingLaws.{kind_known, later_missing, later_faulty, later_none, outcome_error, outcome_fault, none_first, both_true, first_false, second_false}
use Rattle.dia_msg.proofs.read.kind_of.Goals as goal
use Rattle.dia_msg.proofs.read.kind_of.Goals.{else-has_services-via-then-has_services+else-are_faulty, else-has_services-via-else-has_services}

abbrev some_fault : MsgFault → Option MsgFault
some_fault f = Some f

pub returns-in-Some-clause-err : goal.returns-in-Some-clause-err
returns-in-Some-clause-err c =
    let d = known c.args.dictionary.now in
    let header = c.args.header.now in
    let list = seen_all c.args.avps.now in
    let kind = kind_known header list c.args.command c.sort_as-kind.result c.requires.known c.sort_as-kind.ensures.kind in
    let gone = c.in-Some.ensures list (rw c.format_of.ensures c.sort_as-kind.ensures.sorted) in
    outcome_error c.args.dictionary.now header list (seen_fault c.missing_fault.result) c.error_of.result
    (later_missing d header list c.sort_as-kind.result c.in-Some.entry kind (rw (c.format_of.ensures, c.requires.event) at gone) ∙ ap some_fault (sym c.missing_fault.ensures))
    c.error_of.ensures

pub returns-then-are_faulty-clause-err : goal.returns-then-are_faulty-clause-err
returns-then-are_faulty-clause-err c =
    let d = known c.args.dictionary.now in
    let header = c.args.header.now in
    let list = seen_all c.args.avps.now in
    let kind = kind_known header list c.args.command c.sort_as-kind.result c.requires.known c.sort_as-kind.ensures.kind in
    let none = c.in_default.ensures list (rw c.format_of.ensures c.sort_as-kind.ensures.sorted) in
    outcome_fault c.args.dictionary.now header list (fault UnableToComply None) c.fault_of.result
    (later_faulty d header list c.sort_as-kind.result c.are_faulty.result kind (rw (c.format_of.ensures, c.requires.event) at none) (sym (rw c.requires.event at c.are_faulty.ensures))
    (both_true _ _ (sym c.has_services.ensures ∙ c.if-has_services.true) c.if-are_faulty.true))
    c.fault_of.ensures

pub returns-clause-ok : goal.returns-clause-ok
returns-clause-ok c =
    let d = known c.args.dictionary.now in
    let header = c.args.header.now in
    let list = seen_all c.args.avps.now in
    let k = c.sort_as-kind.result in
    let kind = kind_known header list c.args.command k c.requires.known c.sort_as-kind.ensures.kind in
    let none : None ≡ slice_get (missing (format_of k (is_event header list)) list) 0 =
    rw (c.format_of.ensures, c.requires.event) at (c.in_default.ensures list (rw c.format_of.ensures c.sort_as-kind.ensures.sorted)) in
    let clean : later_faults d header list ≡ [] =
    elim c.else-has_services.branch [
      | else-has_services-via-then-has_services+else-are_faulty w ↦ later_none d header list k w.are_faulty.result kind none (sym (rw c.requires.event at w.are_faulty.ensures)) (second_false (has_services k) w.are_faulty.result w.if-are_faulty.false)
      | else-has_services-via-else-has_services w ↦ later_none d header list k _ kind none refl (first_false (has_services k) _ (sym c.has_services.ensures ∙ w.if-has_services.false))
    ] in
    record { kind = kind; clean = clean; sorted = rw c.requires.event at c.sort_as-kind.ensures.sorted; complete = none_first _ none }
