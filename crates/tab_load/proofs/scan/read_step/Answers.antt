use Rattle.std.proofs.Common.{◌∙◌, sym, inl, inr}
use Rattle.std.proofs.lemmas.List.{take_rest}
use Rattle.tab_load.proofs.ScanLemmas.{get_or-drop-0}
use Rattle.tab_load.proofs.scan.read_step.Goals as goal

pub returns-in-Some-clause-octets : goal.returns-in-Some-clause-octets
returns-in-Some-clause-octets c =
    inl (rw (take_rest c.args.code.now c.args.at) at (sym c.octets_fault.ensures ∙ c.in-Some.is))

pub returns-in-Some-instruction_fault-clause-octets : goal.returns-in-Some-instruction_fault-clause-octets
returns-in-Some-instruction_fault-clause-octets c =
    let rest = take_rest c.args.code.now c.args.at in
    let first = get_or-drop-0 c.args.code.now c.args.at in
    inr (c.step_in-step.result, rw rest at (sym c.octets_fault.ensures ∙ c.in_default.is), rw (rest, first) at c.step_in-step.ensures.octets, c.step_in-step.ensures.fits, rw c.size_of.ensures.value at (sym c.instruction_fault.ensures ∙ c.in-Some-instruction_fault.is))

pub returns-in-None-clause-stands : goal.returns-in-None-clause-stands
returns-in-None-clause-stands c =
    rw (take_rest c.args.code.now c.args.at, get_or-drop-0 c.args.code.now c.args.at) at c.step_in-step.ensures.octets

pub returns-in-None-clause-fits : goal.returns-in-None-clause-fits
returns-in-None-clause-fits c = c.step_in-step.ensures.fits

pub returns-in-None-clause-fine : goal.returns-in-None-clause-fine
returns-in-None-clause-fine c = rw c.size_of.ensures.value at (sym c.instruction_fault.ensures ∙ c.in-None.is)
