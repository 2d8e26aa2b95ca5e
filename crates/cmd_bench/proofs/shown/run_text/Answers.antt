use Rattle.std.proofs.Common.{◌++◌, ◌∙◌, List, ℕ, ap}
use Rattle.cmd_bench.specs.Told.{ends_text}
use Rattle.cmd_bench.proofs.shown.run_text.Goals as goal

-- what the lines print, and then the end
pub returns : goal.returns
returns g c = record {
  new = c.run_lines.new.core;
  steps = c.in_ok-text.ensures.steps;
  ran = c.in_ok-text.ensures.ran;
  printed =
      c.in_ok-put_ends.ensures
      ∙ ap (λ (t : List ℕ). t ++ ends_text c.args.shown c.run_lines.new.core c.args.accounts.now) c.in_ok-text.ensures.put;
}
