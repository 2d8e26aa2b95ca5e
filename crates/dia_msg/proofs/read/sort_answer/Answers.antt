use Rattle.std.proofs.Common.{◌∙◌, sym}
use Rattle.dia_msg.specs.Sorting.{seen_all}
use Rattle.dia_msg.proofs.ReadingLaws.{kept_answer, whole_answer}
use Rattle.dia_msg.proofs.read.sort_answer.Goals as goal
use Rattle.dia_msg.proofs.read.sort_answer.Goals.{then-has_failed, else-has_failed}

pub returns-clause-kind : goal.returns-clause-kind
returns-clause-kind c =
    let list = seen_all c.args.avps.now in
    elim c.if-has_failed.branch [
      | then-has_failed w ↦ whole_answer c.args.command list c.args.error w.missing.result c.if-error.false (rw c.format_of-format.ensures at (w.missing.ensures list c.sort.ensures)) (sym w.is_some.ensures ∙ sym w.value-is ∙ c.if-is_some.false)
      | else-has_failed w ↦ kept_answer c.args.command list c.args.error c.if-error.false (sym c.has_failed.ensures ∙ w.if-has_failed.false)
    ]
