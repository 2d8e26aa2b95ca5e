use Rattle.std.proofs.Common.{◌∙◌, ◌+◌, ap, drop, arith}
use Rattle.step_text.specs.Lines.{behind, fact_words}
use Rattle.step_text.specs.Matching.{left_of, without}
use Rattle.step_text.proofs.MatchingLemmas.{fact-compared, fact-passed, facts-done}
use Rattle.step_text.proofs.compare.compare_facts.Goals as goal
use Rattle.step_text.proofs.compare.compare_facts.Goals.{then-value-ne0, else-value-ne0}

pub loop-number-preserved : goal.loop-number-preserved
loop-number-preserved c = elim c.if-value-ne0.branch [
  | then-value-ne0 w ↦
      fact-compared c.args.facts.now c.loop-number.number (left_of c.loop-number.matcher) (left_of w.put_number.new.self) (left_of c.if-value-ne0.matcher) _ (omega arith)
      w.if-value-ne0.true w.put_number.ensures (ap left_of w.matcher-is ∙ w.put_number-then-value-ne0.ensures) c.loop-number.invariant
  | else-value-ne0 w ↦
      ap (without (behind (fact_words (c.loop-number.number + 1) (drop (c.loop-number.number + 1) c.args.facts.now)))) (ap left_of w.matcher-is)
      ∙ fact-passed c.args.facts.now c.loop-number.number (left_of c.loop-number.matcher) _ (omega arith) w.if-value-ne0.false c.loop-number.invariant
]

pub returns : goal.returns
returns c = facts-done c.args.facts.now c.loop-number.number (left_of c.loop-number.matcher) _ (omega arith) c.loop-number.invariant
