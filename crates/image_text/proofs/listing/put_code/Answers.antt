use Rattle.std.proofs.lemmas.List.{take_rest}
use Rattle.tab_load.specs.Code.{instruction_of}
use Rattle.image_text.proofs.ListingLemmas.{IsPrinted-all, IsPrinted-more, IsPrinted-start, next-fine}
use Rattle.image_text.proofs.listing.put_code.Goals as goal

pub instructions-init : goal.instructions-init
instructions-init c = rw c.format-format.ensures (IsPrinted-start _ _ _ _ c.requires.sound.is_code.whole)

-- an instruction stands there
pub step_in-step-requires : goal.step_in-step-requires
step_in-step-requires c =
    let inside = rw c.code-code.ensures at c.instructions-test.true in
    rw (take_rest, c.code-code.ensures) (next-fine _ _ _ _ _ c.instructions.invariant inside)

-- and its line is put
pub instructions-preserved : goal.instructions-preserved
instructions-preserved c =
    let inside = rw c.code-code.ensures at c.instructions-test.true in
    let stands = rw (take_rest, c.code-code.ensures) at c.step_in-step.ensures.octets in
    IsPrinted-more _ _ _ _ _ _ _ (instruction_of c.step_in-step.result) _ c.instructions.invariant inside stands c.step_in-step.ensures.fits c.size_of_step-at.ensures c.in_ok-put_line.ensures

pub returns : goal.returns
returns c =
    let end = rw c.code-code.ensures at c.instructions-test.false in
    IsPrinted-all c.args.program.now _ _ _ (rw c.format-format.ensures at c.instructions.invariant) end
