use Rattle.std.proofs.Common.{◌∙◌, arith, sym}
use Rattle.bench_script.specs.Settled.{is_free}
use Rattle.bench_script.proofs.NextLemmas.{works_here, works_none, works_past}
use Rattle.bench_script.proofs.next.first_work.Goals as goal

-- it is the next shard's
pub returns-then-is_some : goal.returns-then-is_some
returns-then-is_some c =
    works_here (is_free c.args.core.now) c.shards.shard c.shards.left c.if_free-step.result (omega arith) c.if_free-step.ensures (sym c.is_some.ensures ∙ c.if-is_some.true)
    ∙ sym c.shards.invariant.0

-- or behind it
pub shards-preserved : goal.shards-preserved
shards-preserved c = (
  c.shards.invariant.0
      ∙ works_past (is_free c.args.core.now) c.shards.shard c.shards.left c.if_free-step.result (omega arith) c.if_free-step.ensures (sym c.is_some.ensures ∙ c.if-is_some.false),
  omega arith,
)

-- no shard is left
pub returns : goal.returns
returns c = sym (c.shards.invariant.0 ∙ works_none (is_free c.args.core.now) c.shards.shard c.shards.left (omega arith))
