use Rattle.std.proofs.Common.{◌-◌, length, arith, sym, ◌∙◌, inr, []}
use Rattle.tab_load.specs.Code.{instruction_of, instructions_of}
use Rattle.tab_load.specs.declared.instruction.CodeInstruction.TheVariants as step
use Rattle.tab_load.proofs.CheckLemmas.{last-at, ended-at, code-length}
use Rattle.tab_load.proofs.checks.check_end.Goals as goal

pub returns-then-not-is_end-clause-err : goal.returns-then-not-is_end-clause-err
returns-then-not-is_end-clause-err c =
    let steps = c.args.scan.now.steps.items in
    let some = rw c.as_slice.ensures.value at c.in-len1-up.len_at_least in
    let last = last-at steps (length steps - 1) (step.Begin 0) (omega (arith, some)) in
    let all = code-length c.args.format (instructions_of steps) last.0 _ [] last.1 in
    let size = rw c.as_slice.ensures.value at c.size_of_step.ensures in
    inr (last.0, instruction_of _, last.1, rw c.as_slice.ensures.value at (sym c.is_end.ensures ∙ c.if-not-is_end.true), omega (arith, all, size, c.requires.whole))

pub returns-else-not-is_end-clause-ok : goal.returns-else-not-is_end-clause-ok
returns-else-not-is_end-clause-ok c =
    let steps = c.args.scan.now.steps.items in
    let some = rw c.as_slice.ensures.value at c.in-len1-up.len_at_least in
    ended-at steps (length steps - 1) (step.Begin 0) (omega (arith, some)) (rw c.as_slice.ensures.value at (sym c.is_end.ensures ∙ c.if-not-is_end.false))
