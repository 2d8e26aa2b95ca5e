use Rattle.std.proofs.Common.{◌≡◌, ℕ, List, Option, Some, sym, ◌∙◌, ap}
use Rattle.std.specs.Prelude.{Err, IfOk, Ok, Result, flat_map, option_to_list}
use Rattle.std.specs.declared.alloc.AllocError.{AllocError}
use Rattle.std.proofs.lemmas.List.{append-nil}
use Rattle.tab_law.specs.Books.{Laws}
use Rattle.bench_item.specs.Keys.{Configured, node_of}
use Rattle.bench_item.specs.declared.item.Item.{Item}
use Rattle.bench_item.specs.declared.key.Key.{Key}
use Rattle.bench_shard.specs.View.{ShardView}
use Rattle.bench_spec.specs.Items.{firing}
use Rattle.bench_core.specs.Firings.{fired, numbered}
use Rattle.bench_core.proofs.fire.fired_item.Goals as goal

-- what fires at a machine that is there
fired-key : (laws : Laws) (shards : List ShardView) (machine generation : ℕ) (key : Key) (r : Result (Option Item) AllocError) → numbered shards machine ≡ Some key
    → IfOk r (λ item. (peers : Configured) → option_to_list item ≡ firing (node_of laws peers) generation key)
    → IfOk r (λ item. (peers : Configured) → option_to_list item ≡ fired (node_of laws peers) shards machine generation)
fired-key laws shards machine generation key (Ok item) is fires = λ peers.
    fires peers ∙ sym (append-nil (firing (node_of laws peers) generation key))
    ∙ ap (λ (k : Option Key). flat_map (firing (node_of laws peers) generation) (option_to_list k)) (sym is)
fired-key laws shards machine generation key (Err e) is fires = tt

pub returns-in-Some : goal.returns-in-Some
returns-in-Some c =
    fired-key c.args.laws.now c.args.shards.now c.args.machine c.args.generation c.in-Some.key c.firing_item.result
    (sym c.in_ok-key_numbered.ensures ∙ c.in-Some.is) c.firing_item.ensures
