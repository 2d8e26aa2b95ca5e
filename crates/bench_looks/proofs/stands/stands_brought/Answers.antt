use Rattle.std.proofs.Common.{◌∙◌, ◌+◌, ◌<◌, ap, length, subst, sym}
use Rattle.std.specs.Prelude.{None, Some, position, unwrap_or}
use Rattle.bench_item.specs.Keys.{home, number_at}
use Rattle.bench_looks.specs.Before.{before}
use Rattle.bench_looks.specs.Tallies.{is_key}
use Rattle.bench_looks.proofs.StandLemmas.{Brought, brought-nowhere, brought-start, decides-same, standing}
use Rattle.bench_parts.specs.Views.{kept_in}
use Rattle.bench_spec.specs.Machines.{directory, start}
use Rattle.bench_spec.specs.Merged.{not_there}
use Rattle.bench_looks.proofs.stands.stands_brought.Goals as goal

pub returns-in-None : goal.returns-in-None
returns-in-None c =
    let node = c.args.core.now.settings.node in
    let es = before c.args.look.now.stamp (kept_in c.args.part.now) in
    let key = c.args.look.now.key in
    let shard = c.home-shard.result in
    let keys = c.in_ok-keys.keys.items in
    let within : shard < node.shards = subst (λ n. shard < n) c.shards.ensures.count c.home-shard.ensures.within in
    let b : Brought node es key keys shard c.unwrap_or-machines.result None =
    record {
      shard_is = c.home-shard.ensures.is ∙ ap (λ n. home n key.name) c.shards.ensures.count;
      machines_are = c.unwrap_or-machines.ensures ∙ ap (λ o. unwrap_or o 0) (c.machines.ensures.there within)
          ∙ ap (λ log. length (directory node shard log)) c.requires.opening;
      no_peer = c.requires.no_peer;
      still = c.requires.unmoved;
      are = c.in_ok-keys.ensures;
      place_is = sym c.in-None.is ∙ c.place_of.ensures ∙ ap (position (is_key key)) c.deref.ensures.value;
    } in
    decides-same c.is_nowhere.result c.show-stands.result not_there c.args.look.now.stands (standing node es key)
    c.show-stands.ensures (sym (brought-nowhere node es key keys shard c.unwrap_or-machines.result b))
    c.is_nowhere.ensures

pub returns : goal.returns
returns c =
    let node = c.args.core.now.settings.node in
    let es = before c.args.look.now.stamp (kept_in c.args.part.now) in
    let key = c.args.look.now.key in
    let shard = c.home-shard.result in
    let keys = c.in_ok-keys.keys.items in
    let machines = c.unwrap_or-machines.result in
    let within : shard < node.shards = subst (λ n. shard < n) c.shards.ensures.count c.home-shard.ensures.within in
    let b : Brought node es key keys shard machines (Some c.in-Some.place) =
    record {
      shard_is = c.home-shard.ensures.is ∙ ap (λ n. home n key.name) c.shards.ensures.count;
      machines_are = c.unwrap_or-machines.ensures ∙ ap (λ o. unwrap_or o 0) (c.machines.ensures.there within)
          ∙ ap (λ log. length (directory node shard log)) c.requires.opening;
      no_peer = c.requires.no_peer;
      still = c.requires.unmoved;
      are = c.in_ok-keys.ensures;
      place_is = sym c.in-Some.is ∙ c.place_of.ensures ∙ ap (position (is_key key)) c.deref.ensures.value;
    } in
    decides-same c.is_start_behind.result c.show-stands.result (start (number_at shard (machines + c.in-Some.place)))
    c.args.look.now.stands (standing node es key) c.show-stands.ensures
    (sym (brought-start node es key keys shard machines c.in-Some.place b)) c.is_start_behind.ensures
