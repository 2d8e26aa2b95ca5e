use Rattle.std.proofs.Common.{◌≡◌, ◌∙◌, [], ap, subst}
use Rattle.std.specs.Prelude.{slice_get}
use Rattle.bench_item.specs.declared.step.Step.TheVariants as steps
use Rattle.bench_spec.specs.Refusal.{refusal}
use Rattle.bench_core.specs.Faults.{unpaused_shard_fault}
use Rattle.bench_core.specs.Inside.{settings_in, stored_in}
use Rattle.bench_core.proofs.LineFaults.{full-log}
use Rattle.bench_core.proofs.ShardFaults.{unpaused-log}
use Rattle.bench_core.proofs.keeping.Core.unpaused_work_fault.Goals as goal

pub returns : goal.returns
returns c =
    let w = c.self.inside in
    subst (λ run. c.unpaused_shard_fault.result ≡ refusal run.settings run.log [] (steps.Work c.args.shard)) c.self.view_is
    (c.unpaused_shard_fault.ensures ∙ ap (λ xs. unpaused_shard_fault (slice_get xs c.args.shard) c.is_full-full.result) c.deref.ensures.value ∙ ap (unpaused_shard_fault (slice_get w.shards.items c.args.shard)) (c.is_full-full.ensures ∙ full-log w.log.entries)
    ∙ unpaused-log (settings_in w) w.log.entries (stored_in w) c.args.shard c.self.invariant.whole.tied)
