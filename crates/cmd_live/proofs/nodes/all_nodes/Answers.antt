use Rattle.std.proofs.Common.{◌≡◌, ◌<◌, ◌+◌, ◌++◌, ◌∷◌, ◌∙◌, List, [], ap, append_assoc, arith, length, refl, subst, sym}
use Rattle.std.proofs.lemmas.Result.{err_from_is_err_and}
use Rattle.std.specs.Prelude.{option_map}
use Rattle.bench_setup.specs.declared.setups.Setup.{Setup}
use Rattle.config_text.specs.declared.node.NodeConfig.{NodeConfig}
use Rattle.cmd_live.specs.Lives.{AreLivings, nothing}
use Rattle.cmd_live.specs.Nodes.{nodes_of, wanted_node}
use Rattle.cmd_live.proofs.LivesLemmas.{living_next}
use Rattle.cmd_live.proofs.RefusalLemmas.{at_place, refused_err}
use Rattle.cmd_live.proofs.nodes.all_nodes.Goals as goal

-- none yet
pub setups-init : goal.setups-init
setups-init g c = record {
  nodes = ap (λ (n : List NodeConfig). n ++ nodes_of (option_map (λ host. host.now) c.args.words.node) c.into_iter-left.result.rest.items) c.new.ensures.items;
  left = refl;
  all = omega arith;
  count = omega (arith, ap length c.new.ensures.items);
  livings =
      subst (AreLivings (option_map (λ host. host.now) c.args.words.node) c.args.seconds c.args.words.stats []) (sym c.new-2.ensures.items) nothing;
  both = ap length c.new-2.ensures.items ∙ sym (ap length c.new.ensures.items);
}

-- one node more
pub setups-preserved : goal.setups-preserved
setups-preserved g c =
    let host = option_map (λ host. host.now) c.args.words.node in
    let rest : List Setup = c.next.new.self.rest.items in
    let left : c.setups.left.rest.items ≡ c.in-Some.setup ∷ rest = c.in-Some.ensures.items in
    let shorter : length c.setups.left.rest.items ≡ length rest + 1 = omega (arith, ap length left) in
    let within : c.setups.place < length c.into_iter-left.result.rest.items = omega (arith, c.setups.invariant.all, shorter) in
    let at = at_place c.into_iter-left.result.rest.items rest c.setups.place c.in-Some.setup within (c.setups.invariant.left ∙ left) in record {
      nodes =
          ap (λ (n : List NodeConfig). n ++ nodes_of host rest) c.in_ok-add_wanted.ensures.nodes
          ∙ append_assoc c.setups.nodes.nodes.items (wanted_node host c.in-Some.setup) (nodes_of host rest)
          ∙ ap (λ (s : List Setup). c.setups.nodes.nodes.items ++ nodes_of host s) (sym left) ∙ c.setups.invariant.nodes;
      left = at.1;
      all = omega (arith, c.setups.invariant.all, shorter);
      count = omega (arith, c.in_ok-add_wanted.ensures.few, c.setups.invariant.count);
      livings =
          living_next host c.args.seconds c.args.words.stats c.into_iter-left.result.rest.items c.setups.place c.in-Some.setup c.setups.nodes.livings.items _
          within at.0 c.in_ok-add_wanted.ensures.livings c.setups.invariant.livings;
      both = c.in_ok-add_wanted.ensures.both c.setups.invariant.both;
    }

-- the node at a place is refused
pub returns-in_err-add_wanted-clause-refused : goal.returns-in_err-add_wanted-clause-refused
returns-in_err-add_wanted-clause-refused g c =
    let host = option_map (λ host. host.now) c.args.words.node in
    let rest : List Setup = c.next.new.self.rest.items in
    let left : c.setups.left.rest.items ≡ c.in-Some.setup ∷ rest = c.in-Some.ensures.items in
    let shorter : length c.setups.left.rest.items ≡ length rest + 1 = omega (arith, ap length left) in
    let within : c.setups.place < length c.into_iter-left.result.rest.items = omega (arith, c.setups.invariant.all, shorter) in
    let there = (at_place c.into_iter-left.result.rest.items rest c.setups.place c.in-Some.setup within (c.setups.invariant.left ∙ left)).0 in
    let p = err_from_is_err_and c.from_residual.result c.from_residual.ensures.1 in
    refused_err host c.args.setups.items c.setups.place c.in-Some.setup c.in_err-add_wanted.field-0.0 p.0 c.from_residual.result p.1 p.2 (rw c.into_iter-left.ensures.rest at there) c.in_err-add_wanted.ensures.refused
