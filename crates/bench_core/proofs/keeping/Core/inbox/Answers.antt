use Rattle.std.proofs.Common.{◌≡◌, ◌<◌, ◌≤◌, ◌∙◌, [], Option, ap, subst}
use Rattle.std.specs.Prelude.{IfOk, slice_get}
use Rattle.std.specs.Option.{option_map_or}
use Rattle.bench_queue.specs.Inbox.{items_in}
use Rattle.bench_shard.specs.View.{ShardView}
use Rattle.bench_spec.specs.Items.{inbox}
use Rattle.bench_core.specs.Inside.{settings_in}
use Rattle.bench_core.proofs.LookLemmas.{if_ok}
use Rattle.bench_core.proofs.QueueLemmas.{inbox-shown, none-there}
use Rattle.bench_core.proofs.keeping.Core.inbox.Goals as goal

read : (c : goal.After-inbox_in) → IfOk c.inbox_in.result (λ items. items ≡ option_map_or (λ (v : ShardView). items_in v.inbox) (slice_get c.self.inside.shards.items c.args.shard) [])
read c = subst (λ vs. IfOk c.inbox_in.result (λ items. items ≡ option_map_or (λ (v : ShardView). items_in v.inbox) (slice_get vs c.args.shard) [])) c.deref.ensures.value c.inbox_in.ensures

pub returns-clause-there : goal.returns-clause-there
returns-clause-there c =
    let w = c.self.inside in
    subst (λ run. IfOk c.inbox_in.result (λ items. c.args.shard < run.settings.node.shards → items ≡ inbox run.settings.node run.log c.args.shard)) c.self.view_is
    (if_ok (λ items. items ≡ option_map_or (λ (v : ShardView). items_in v.inbox) (slice_get w.shards.items c.args.shard) [])
    (λ items. c.args.shard < (settings_in w).node.shards → items ≡ inbox (settings_in w).node w.log.entries c.args.shard) c.inbox_in.result (read c)
    (λ items is less. is ∙ inbox-shown w c.args.shard c.self.invariant less))

pub returns-clause-none : goal.returns-clause-none
returns-clause-none c =
    let w = c.self.inside in
    subst (λ run. IfOk c.inbox_in.result (λ items. run.settings.node.shards ≤ c.args.shard → items ≡ [])) c.self.view_is
    (if_ok (λ items. items ≡ option_map_or (λ (v : ShardView). items_in v.inbox) (slice_get w.shards.items c.args.shard) [])
    (λ items. (settings_in w).node.shards ≤ c.args.shard → items ≡ []) c.inbox_in.result (read c)
    (λ items is past. is ∙ ap (λ (o : Option ShardView). option_map_or (λ (v : ShardView). items_in v.inbox) o []) (none-there w c.args.shard c.self.invariant past)))
