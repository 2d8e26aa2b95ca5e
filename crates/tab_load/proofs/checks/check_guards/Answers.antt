use Rattle.std.proofs.Common.{arith, sym, ◌∙◌, refl, ap, ◌+◌, ℕ}
use Rattle.tab_load.specs.Code.{instruction_of, instructions_of}
use Rattle.tab_load.specs.declared.instruction.CodeInstruction.TheVariants as step
use Rattle.tab_load.proofs.CheckLemmas.{split-at, code-length}
use Rattle.tab_load.proofs.checks.check_guards.Goals as goal

pub overflow_add-at : goal.overflow_add-at
overflow_add-at c =
    let steps = c.args.scan.now.steps.items in
    let at = split-at steps c.loop-step.step-index (step.Begin 0) (rw c.as_slice-step-items.ensures.value at c.loop-step-test.true) in
    let all = code-length c.args.format (instructions_of steps) _ _ at.0 at.1 in
    omega (arith, all, c.loop-step.invariant.at, c.requires.whole, c.requires.small)

pub overflow_add-at-in-loop-step : goal.overflow_add-at-in-loop-step
overflow_add-at-in-loop-step c =
    let steps = c.args.scan.now.steps.items in
    let at = split-at steps c.loop-step.step-index (step.Begin 0) (rw c.as_slice-step-items.ensures.value at c.loop-step-test.true) in
    let all = code-length c.args.format (instructions_of steps) _ _ at.0 at.1 in
    let size = rw c.as_slice-step-items.ensures.value at c.size_of_step-at.ensures in
    omega (arith, all, size, c.loop-step.invariant.at, c.requires.whole, c.requires.small)

pub returns-then-not-leads-clause-err : goal.returns-then-not-leads-clause-err
returns-then-not-leads-clause-err c =
    let steps = c.args.scan.now.steps.items in
    let at = split-at steps c.loop-step.step-index (step.Begin 0) (rw c.as_slice-step-items.ensures.value at c.loop-step-test.true) in
    record {
      before = instructions_of _;
      guard = instruction_of _;
      after = at.0;
      joined = at.1;
      earlier = c.loop-step.invariant.earlier;
      wrong = rw (c.as_slice.ensures.value, c.requires.marks, c.as_slice-step-items.ensures.value) at (sym c.leads.ensures ∙ c.if-not-leads.true);
      place = ap (λ (n : ℕ). c.args.begin + n) c.loop-step.invariant.at;
      offset = refl;
    }
