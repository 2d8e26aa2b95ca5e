use Rattle.std.proofs.Common.{arith}
use Rattle.step_text.specs.Matching.{left_of}
use Rattle.log_text.proofs.CompareLemmas.{value-compared, values-done}
use Rattle.log_text.proofs.compare.compare_values.Goals as goal

pub loop-value-preserved : goal.loop-value-preserved
loop-value-preserved c =
    value-compared c.args.values.now c.loop-value.value-index (left_of c.loop-value.matcher) (left_of c.put_number.new.self) _ (omega arith) c.put_number.ensures c.loop-value.invariant

pub returns : goal.returns
returns c = values-done c.args.values.now c.loop-value.value-index (left_of c.loop-value.matcher) _ (omega arith) c.loop-value.invariant
