use Rattle.std.proofs.Common.{◌∙◌}
use Rattle.bench_shard.proofs.SettleLemmas.{set-back}
use Rattle.bench_shard.proofs.settle.stand.Goals as goal

pub returns-clause-undone : goal.returns-clause-undone
returns-clause-undone c =
    set-back c.args.states.now.items c.args.place _ c.replace-before.result _ (c.replace-before.ensures.value ∙ c.index_mut.ensures.value)
