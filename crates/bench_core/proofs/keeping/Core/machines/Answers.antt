use Rattle.std.proofs.Common.{◌≡◌, ◌<◌, ◌≤◌, ◌∙◌, None, Some, ap, length, subst}
use Rattle.std.specs.Prelude.{option_map, slice_get}
use Rattle.bench_shard.specs.View.{ShardView}
use Rattle.bench_spec.specs.Machines.{directory}
use Rattle.bench_core.proofs.QueueLemmas.{machines-shown, none-there}
use Rattle.bench_core.proofs.keeping.Core.machines.Goals as goal

read : (c : goal.After-machines_in) → c.machines_in.result ≡ option_map (λ (v : ShardView). length v.names) (slice_get c.self.inside.shards.items c.args.shard)
read c = subst (λ vs. c.machines_in.result ≡ option_map (λ (v : ShardView). length v.names) (slice_get vs c.args.shard)) c.deref.ensures.value c.machines_in.ensures

pub returns-clause-there : goal.returns-clause-there
returns-clause-there c =
    let w = c.self.inside in
    subst (λ run. c.args.shard < run.settings.node.shards → c.machines_in.result ≡ Some (length (directory run.settings.node c.args.shard run.log))) c.self.view_is
    (λ less. read c ∙ machines-shown w c.args.shard c.self.invariant less)

pub returns-clause-none : goal.returns-clause-none
returns-clause-none c =
    let w = c.self.inside in
    subst (λ run. run.settings.node.shards ≤ c.args.shard → c.machines_in.result ≡ None) c.self.view_is
    (λ past. read c ∙ ap (option_map (λ (v : ShardView). length v.names)) (none-there w c.args.shard c.self.invariant past))
