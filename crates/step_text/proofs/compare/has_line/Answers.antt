use Rattle.std.proofs.Common.{◌∙◌, ap}
use Rattle.step_text.specs.Commands.{name_of, which}
use Rattle.step_text.specs.Lines.{behind, others_of}
use Rattle.step_text.specs.Matching.{left_of}
use Rattle.step_text.specs.Names.{names_of}
use Rattle.step_text.specs.Shown.{step_shown}
use Rattle.step_text.proofs.MatchingLemmas.{line-compared}
use Rattle.step_text.proofs.compare.has_line.Goals as goal

pub returns : goal.returns
returns c =
    let step = step_shown c.args.step.now in
    line-compared (name_of (which step)) (behind (others_of (names_of c.args.laws.now c.args.machines.now) step)) c.args.line.now c.name.result.now
    (left_of c.new-matcher.result) (left_of c.put.new.self) (left_of c.compare_others.new.matcher) c.is_done.result
    c.new-matcher.ensures (c.name.ensures ∙ ap name_of c.which.ensures) c.put.ensures c.compare_others.ensures c.is_done.ensures
