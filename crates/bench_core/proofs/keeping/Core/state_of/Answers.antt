use Rattle.std.proofs.Common.{◌≡◌, ◌∙◌, length, subst}
use Rattle.std.specs.Prelude.{slice_get}
use Rattle.std.specs.Option.{option_and_then}
use Rattle.bench_item.specs.Keys.{home}
use Rattle.bench_shard.specs.View.{ShardView, place_in}
use Rattle.bench_spec.specs.Machines.{state_of}
use Rattle.bench_core.proofs.LookLemmas.{state-shown}
use Rattle.bench_core.proofs.keeping.Core.state_of.Goals as goal

pub returns : goal.returns
returns c =
    let w = c.self.inside in
    let key = c.args.key.now in
    let read =
    subst (λ vs. c.state_in.result ≡ option_and_then (λ (v : ShardView). option_and_then (slice_get v.states) (place_in v key)) (slice_get vs (home (length vs) key.name)))
    c.deref.ensures.value c.state_in.ensures in
    subst (λ run. c.state_in.result ≡ state_of run.settings.node run.log key) c.self.view_is (read ∙ state-shown w key c.self.invariant)
