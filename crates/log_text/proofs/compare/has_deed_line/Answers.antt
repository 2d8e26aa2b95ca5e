use Rattle.std.proofs.Common.{◌∙◌, ap}
use Rattle.log_text.specs.DeedLines.{deed_line}
use Rattle.step_text.specs.Matching.{is_done, without}
use Rattle.step_text.proofs.MatchingLemmas.{is_done-without}
use Rattle.log_text.proofs.compare.has_deed_line.Goals as goal

pub returns : goal.returns
returns c =
    c.is_done.ensures ∙ ap is_done (c.compare_deed.ensures ∙ ap (without (deed_line c.args.deed.now)) c.new-matcher.ensures)
    ∙ is_done-without (deed_line c.args.deed.now) c.args.line.now
