use Rattle.std.proofs.Common.{arith}
use Rattle.step_text.specs.Matching.{left_of}
use Rattle.step_text.proofs.MatchingLemmas.{name-compared, name-done}
use Rattle.step_text.proofs.compare.compare_name.Goals as goal

pub loop-c-preserved : goal.loop-c-preserved
loop-c-preserved c =
    name-compared c.args.name.now c.loop-c.c-index (left_of c.loop-c.matcher) (left_of c.compare_octet.new.matcher) _ (omega arith) c.compare_octet.ensures c.loop-c.invariant

pub returns : goal.returns
returns c = name-done c.args.name.now c.loop-c.c-index (left_of c.loop-c.matcher) _ (omega arith) c.loop-c.invariant
