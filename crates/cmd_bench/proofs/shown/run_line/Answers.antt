use Rattle.std.proofs.Common.{◌≡◌, ◌++◌, ◌∷◌, [], ◌∙◌, List, ap}
use Rattle.bench_nodes.proofs.LineLemmas.{ran_by}
use Rattle.script_text.specs.declared.run_line.RunLine.{RunLine}
use Rattle.cmd_bench.proofs.shown.run_line.Goals as goal

-- the script is this line alone
pub returns : goal.returns
returns g c =
    let lines : c.push.new.self.items ≡ c.args.line ∷ [] = c.in_ok-push.ensures.items ∙ ap (λ (ls : List RunLine). ls ++ c.args.line ∷ []) c.new-lines.ensures.items in
    let prints = c.in_ok-run_script.ensures in record {
      text = prints.text;
      put = prints.put;
      does = ran_by c.args.core.now c.run_script.new.core c.args.line c.push.new.self.items prints.text prints.does lines;
    }
