use Rattle.std.proofs.Common.{◌∙◌, ap}
use Rattle.log_text.specs.Books.{named}
use Rattle.log_text.specs.ItemLines.{item_line}
use Rattle.log_text.specs.Shown.{item_shown}
use Rattle.step_text.specs.Matching.{is_done, without}
use Rattle.step_text.proofs.MatchingLemmas.{is_done-without}
use Rattle.log_text.proofs.compare.has_item_line.Goals as goal

pub returns : goal.returns
returns c =
    let line = item_line (named c.args.names.now) (item_shown c.args.item.now) in
    c.is_done.ensures ∙ ap is_done (c.compare_item.ensures ∙ ap (without line) c.new-matcher.ensures) ∙ is_done-without line c.args.line.now
