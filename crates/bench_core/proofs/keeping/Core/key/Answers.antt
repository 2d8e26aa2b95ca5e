use Rattle.std.proofs.Common.{◌≡◌, ◌<◌, ◌≤◌, ◌∙◌, None, subst}
use Rattle.std.specs.Prelude.{IfOk}
use Rattle.bench_item.specs.Keys.{shard_of}
use Rattle.bench_spec.specs.Machines.{key_numbered}
use Rattle.bench_core.specs.Firings.{numbered}
use Rattle.bench_core.specs.Inside.{settings_in, stored_in}
use Rattle.bench_core.proofs.FireLemmas.{numbered-log}
use Rattle.bench_core.proofs.LookLemmas.{if_ok, none-numbered}
use Rattle.bench_core.proofs.keeping.Core.key.Goals as goal

read : (c : goal.After-key_numbered) → IfOk c.key_numbered.result (λ key. key ≡ numbered c.self.inside.shards.items c.args.machine)
read c = subst (λ vs. IfOk c.key_numbered.result (λ key. key ≡ numbered vs c.args.machine)) c.deref.ensures.value c.key_numbered.ensures

pub returns-clause-there : goal.returns-clause-there
returns-clause-there c =
    let w = c.self.inside in
    subst (λ run. IfOk c.key_numbered.result (λ key. shard_of c.args.machine < run.settings.node.shards → key ≡ key_numbered run.settings.node run.log c.args.machine)) c.self.view_is
    (if_ok (λ key. key ≡ numbered w.shards.items c.args.machine)
    (λ key. shard_of c.args.machine < (settings_in w).node.shards → key ≡ key_numbered (settings_in w).node w.log.entries c.args.machine) c.key_numbered.result (read c)
    (λ key is less. is ∙ numbered-log (settings_in w) w.log.entries (stored_in w) c.args.machine c.self.invariant.whole.tied less))

pub returns-clause-none : goal.returns-clause-none
returns-clause-none c =
    let w = c.self.inside in
    subst (λ run. IfOk c.key_numbered.result (λ key. run.settings.node.shards ≤ shard_of c.args.machine → key ≡ None)) c.self.view_is
    (if_ok (λ key. key ≡ numbered w.shards.items c.args.machine) (λ key. (settings_in w).node.shards ≤ shard_of c.args.machine → key ≡ None) c.key_numbered.result (read c)
    (λ key is past. is ∙ none-numbered w c.args.machine c.self.invariant past))
