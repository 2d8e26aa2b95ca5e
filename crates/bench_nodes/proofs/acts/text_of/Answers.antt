use Rattle.std.proofs.Common.{◌≡◌, ◌++◌, ◌∷◌, [], ◌∙◌, List, ℕ, ap, subst, sym}
use Rattle.bench_script.specs.Ran.{Does}
use Rattle.script_text.specs.declared.run_line.RunLine.{RunLine}
use Rattle.bench_nodes.proofs.ActLemmas.{own_same}
use Rattle.bench_nodes.proofs.LineLemmas.{ran_by}
use Rattle.bench_nodes.proofs.acts.text_of.Goals as goal

-- the registries are those of the bench
pub run_script-requires : goal.run_script-requires
run_script-requires g c = record {
  same =
      own_same _ c.args.registries.now c.own_of-own.result.now c.shards-shards.result c.args.core.now.settings.node.shards c.args.core.now.settings.node.laws
      c.own_of-own.ensures c.shards-shards.ensures.count c.requires.by;
}

-- the script is this line alone
pub returns : goal.returns
returns g c =
    let lines : c.push.new.self.items ≡ c.args.line ∷ [] = c.in_ok-push.ensures.items ∙ ap (λ (ls : List RunLine). ls ++ c.args.line ∷ []) c.new-lines.ensures.items in
    let prints = c.in_ok-run_script.ensures in
    let put : c.run_script.new.out.items ≡ prints.text = prints.put ∙ ap (λ (o : List ℕ). o ++ prints.text) c.new-text.ensures.items in
    subst (λ (t : List ℕ). Does c.args.core.now c.args.line c.run_script.new.core t) (sym put)
    (ran_by c.args.core.now c.run_script.new.core c.args.line c.push.new.self.items prints.text prints.does lines)
