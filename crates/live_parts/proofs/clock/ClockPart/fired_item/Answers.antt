use Rattle.std.proofs.Common.{◌≡◌, ◌∙◌, ℕ, Option, Some, ap, sym}
use Rattle.std.specs.Prelude.{Err, IfOk, Ok, Result, flat_map, option_to_list}
use Rattle.std.specs.declared.alloc.AllocError.{AllocError}
use Rattle.std.proofs.lemmas.List.{append-nil}
use Rattle.tab_law.specs.Books.{Laws}
use Rattle.bench_item.specs.Keys.{Configured, node_of}
use Rattle.bench_item.specs.declared.item.Item.{Item}
use Rattle.bench_item.specs.declared.key.Key.{Key}
use Rattle.bench_move.specs.Tables.{Tables}
use Rattle.bench_spec.specs.Items.{firing}
use Rattle.live_parts.specs.Clocks.{ClockView, fired_item, key_of}
use Rattle.live_parts.proofs.clock.ClockPart.fired_item.Goals as goal

-- what fires at a machine that is known
fired-key : (v : ClockView) (laws : Laws) (machine generation : ℕ) (key : Key) (r : Result (Option Item) AllocError) → laws ≡ v.laws → key_of v machine ≡ Some key
    → IfOk r (λ item. (peers : Configured) → option_to_list item ≡ firing (node_of laws peers) generation key)
    → IfOk r (λ item. (peers : Configured) → option_to_list item ≡ fired_item v peers machine generation)
fired-key v laws machine generation key (Ok item) same is fires = λ peers.
    fires peers ∙ ap (λ (l : Laws). firing (node_of l peers) generation key) same
    ∙ sym (append-nil (firing (node_of v.laws peers) generation key))
    ∙ ap (λ (k : Option Key). flat_map (firing (node_of v.laws peers) generation) (option_to_list k)) (sym is)
fired-key v laws machine generation key (Err e) same is fires = tt

pub returns-in-Some : goal.returns-in-Some
returns-in-Some c =
    fired-key c.args.self.now c.laws.result.now c.args.machine c.args.generation c.in-Some.key c.firing_item.result
    (c.laws.ensures ∙ ap (λ (t : Tables). t.laws) c.deref.ensures ∙ ap (λ (v : ClockView). v.laws) c.self.view_is)
    (sym c.in_ok-known.ensures ∙ c.in-Some.is) c.firing_item.ensures
