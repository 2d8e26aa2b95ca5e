use Rattle.std.proofs.Common.{sym, ◌∙◌}
use Rattle.tab_step.proofs.BindLemmas.{name-is}
use Rattle.tab_step.proofs.binding.find_one.Goals as goal

pub returns-in-Some-clause-ok : goal.returns-in-Some-clause-ok
returns-in-Some-clause-ok g c =
    let named = name-is c.args.names.now c.as_slice.result.now c.args.number c.index-as_slice-number.result c.as_slice-name.result.now c.as_slice.ensures c.index-as_slice-number.is c.as_slice-name.ensures c.requires.named in
    rw (← named) (sym c.find.ensures.place ∙ c.in-Some.is)

pub returns-in-None-clause-name : goal.returns-in-None-clause-name
returns-in-None-clause-name g c =
    name-is c.args.names.now c.as_slice.result.now c.args.number c.index-as_slice-number.result c.as_slice-name.result.now c.as_slice.ensures c.index-as_slice-number.is c.as_slice-name.ensures c.requires.named

pub returns-in-None-clause-none : goal.returns-in-None-clause-none
returns-in-None-clause-none g c =
    let named = name-is c.args.names.now c.as_slice.result.now c.args.number c.index-as_slice-number.result c.as_slice-name.result.now c.as_slice.ensures c.index-as_slice-number.is c.as_slice-name.ensures c.requires.named in
    rw (← named) (sym c.find.ensures.place ∙ c.in-None.is)
