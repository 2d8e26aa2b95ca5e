use Rattle.std.proofs.Common.{◌≡◌, ◌∙◌, length, subst}
use Rattle.std.specs.Prelude.{option_map, slice_get}
use Rattle.std.specs.Option.{option_and_then}
use Rattle.bench_item.specs.Keys.{home, number_at}
use Rattle.bench_shard.specs.View.{ShardView, place_in}
use Rattle.bench_spec.specs.Machines.{number_of}
use Rattle.bench_core.proofs.LookLemmas.{number-shown}
use Rattle.bench_core.proofs.keeping.Core.number_of.Goals as goal

pub returns : goal.returns
returns c =
    let w = c.self.inside in
    let key = c.args.key.now in
    let read =
    subst (λ vs. c.number_in.result ≡ option_and_then (λ (v : ShardView). option_map (number_at (home (length vs) key.name)) (place_in v key)) (slice_get vs (home (length vs) key.name)))
    c.deref.ensures.value c.number_in.ensures in
    subst (λ run. c.number_in.result ≡ number_of run.settings.node run.log key) c.self.view_is (read ∙ number-shown w key c.self.invariant)
