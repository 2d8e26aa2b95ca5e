use Rattle.std.proofs.Common.{◌∙◌, sym}
use Rattle.std.proofs.lemmas.Slice.Eq.{bytes_eq-Decides}
use Rattle.step_text.specs.Lines.{line_of}
use Rattle.step_text.specs.Names.{names_of}
use Rattle.step_text.specs.Shown.{step_shown}
use Rattle.step_text.proofs.GuessLemmas.{no_guess, other_guess}
use Rattle.step_text.proofs.StepLemmas.{IsBytes-fits, line_is}
use Rattle.step_text.proofs.read.find_step.Goals as goal

pub returns-in_err-step-clause-none : goal.returns-in_err-step-clause-none
returns-in_err-step-clause-none c =
    rw c.from_residual.ensures (no_guess (names_of c.args.laws.now c.args.machines.now) c.args.line.now c.known.ensures.named (sym c.in_err-step.ensures))

pub returns-then-has_line-clause-step : goal.returns-then-has_line-clause-step
returns-then-has_line-clause-step c =
    let names = names_of c.args.laws.now c.args.machines.now in
    let step = step_shown c.in_ok-step.step in
    record {
      is = line_is names c.args.line.now step (IsBytes-fits c.args.line.now c.type_inv.line) c.known.ensures.octets (sym c.in_ok-step.ensures);
      has = (bytes_eq-Decides (line_of names step) c.args.line.now).0 (sym c.has_line.ensures ∙ c.if-has_line.true);
    }

pub returns-else-has_line-clause-none : goal.returns-else-has_line-clause-none
returns-else-has_line-clause-none c =
    other_guess (names_of c.args.laws.now c.args.machines.now) c.args.line.now (step_shown c.in_ok-step.step) c.known.ensures.named
    (sym c.in_ok-step.ensures) (sym c.has_line.ensures ∙ c.if-has_line.false)
