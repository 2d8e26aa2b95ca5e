use Rattle.std.proofs.Common.{◌≡◌, ◌∙◌, ap, subst, false, length}
use Rattle.std.specs.Prelude.{◌==◌, nat_lt, not}
use Rattle.std.specs.Option.{option_map_or}
use Rattle.bench_item.specs.Keys.{shard_of}
use Rattle.bench_item.specs.declared.step.Step.TheVariants as steps
use Rattle.bench_item.specs.declared.step.StepFault.TheVariants.{Full, Nothing, Unknown}
use Rattle.bench_spec.specs.Refusal.{is_armed, is_log_full, refusal}
use Rattle.bench_core.specs.Inside.{settings_in}
use Rattle.bench_core.proofs.LineFaults.{full-log, three}
use Rattle.bench_core.proofs.keeping.Core.fired_fault.Goals as goal

pub returns : goal.returns
returns c =
    let w = c.self.inside in
    let tied = c.self.invariant.whole.tied in
    subst (λ run. c.held.result ≡ refusal run.settings run.log run.paused (steps.Fired c.args.machine c.args.generation)) c.self.view_is
    (three (not c.has_shard-there.result) (not c.is_armed-armed.result) c.is_full-full.result
    (not (nat_lt (shard_of c.args.machine) (settings_in w).node.shards)) (not (is_armed w.log.entries c.args.machine c.args.generation)) (is_log_full w.log.entries) Unknown Nothing Full
    c.held.result c.held-idle.result c.held-late.result c.held-late.ensures c.held-idle.ensures c.held.ensures
    (ap not (c.has_shard-there.ensures ∙ ap (λ xs. nat_lt (shard_of c.args.machine) (length xs)) c.deref.ensures.value ∙ ap (λ n. nat_lt (shard_of c.args.machine) n) tied.shard_count))
    (ap not (c.is_armed-armed.ensures ∙ ap (λ o. option_map_or (λ g. g == c.args.generation) o false) (tied.timers c.args.machine)))
    (c.is_full-full.ensures ∙ full-log w.log.entries))
