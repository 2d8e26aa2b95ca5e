use Rattle.std.proofs.Common.{◌≡◌, ◌+◌, ◌++◌, ◌∷◌, [], ◌∙◌, List, ap, append_assoc, arith, length, map, subst, sym}
use Rattle.std.proofs.lemmas.List.{length-append, map-append}
use Rattle.config_text.specs.declared.node.NodeConfig.{NodeConfig}
use Rattle.bench_setup.specs.Setups.{AreReadInTurn}
use Rattle.bench_setup.specs.declared.setups.Setup.{Setup}
use Rattle.bench_setup.proofs.SetupLemmas.{in_turn_more}
use Rattle.bench_setup.proofs.setups.read_benches.Goals as goal

-- the files of one node more were read
pub nodes-preserved : goal.nodes-preserved
nodes-preserved g c =
    let setup : Setup = record { node = c.in-Some.node; bench = c.in_ok-bench.bench } in
    let node_of : Setup → NodeConfig = λ (s : Setup). s.node in
    let pushed : c.push.new.self.items ≡ c.nodes.setups.items ++ setup ∷ [] = c.in_ok-push.ensures.items in
    let left : c.nodes.left.rest.items ≡ c.in-Some.node ∷ c.next.new.self.rest.items = c.in-Some.ensures.items in
    let longer : length c.push.new.self.items ≡ length c.nodes.setups.items + 1 = ap length pushed ∙ length-append c.nodes.setups.items (setup ∷ []) in
    let shorter : length c.nodes.left.rest.items ≡ length c.next.new.self.rest.items + 1 = omega (arith, ap length left) in record {
      sound = c.in_ok-bench.ensures.sound ∙ c.nodes.invariant.sound;
      made = omega (arith, c.read_bench.ensures.made, c.nodes.invariant.made);
      reads = omega (arith, c.read_bench.ensures.reads, c.nodes.invariant.reads, longer);
      few = omega (arith, c.nodes.invariant.few, longer, shorter);
      nodes =
          ap (λ (s : List Setup). map node_of s ++ c.next.new.self.rest.items) pushed
          ∙ ap (λ (n : List NodeConfig). n ++ c.next.new.self.rest.items) (map-append node_of c.nodes.setups.items (setup ∷ []))
          ∙ append_assoc (map node_of c.nodes.setups.items) (c.in-Some.node ∷ []) c.next.new.self.rest.items
          ∙ ap (λ (n : List NodeConfig). map node_of c.nodes.setups.items ++ n) (sym left)
          ∙ c.nodes.invariant.nodes;
      in_turn =
          subst (λ (s : List Setup). AreReadInTurn g.I.ByteSource.remaining g.I.ByteSource.reads g.I.ByteSource.failures c.args.source.now s c.read_bench.new.source) (sym pushed)
          (in_turn_more g.I.ByteSource.remaining g.I.ByteSource.reads g.I.ByteSource.failures c.args.source.now c.nodes.source c.read_bench.new.source c.nodes.setups.items setup
          c.nodes.invariant.in_turn c.in_ok-bench.ensures.bench);
    }
