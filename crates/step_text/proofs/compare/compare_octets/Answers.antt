use Rattle.std.proofs.Common.{arith}
use Rattle.step_text.specs.Matching.{left_of}
use Rattle.step_text.proofs.MatchingLemmas.{pairs-compared, pairs-done}
use Rattle.step_text.proofs.compare.compare_octets.Goals as goal

pub pairs-preserved : goal.pairs-preserved
pairs-preserved c =
    pairs-compared c.pairs.left.now (left_of c.pairs.matcher) (left_of c.compare_hex.new.matcher) _ (omega arith)
    (rw (c.nibble.ensures.value, c.nibble-in-len2-up.ensures.value) at c.compare_hex.ensures) c.pairs.invariant

pub returns : goal.returns
returns c = pairs-done c.pairs.left.now (left_of c.pairs.matcher) _ (omega arith) c.pairs.invariant
