use Rattle.std.proofs.Common.{refl, [], inl}
use Rattle.std.proofs.lemmas.Result.{err_from_is_err_and}
use Rattle.dia_avp.proofs.ReadLaws.{few_listed}
use Rattle.dia_avp.proofs.PartLaws.{avps_in-only}
use Rattle.dia_avp.proofs.GroupLaws.{group_fault-none}
use Rattle.dia_avp.proofs.group.group_of.Goals as goal

pub returns-in_err-list_of-clause-fault : goal.returns-in_err-list_of-clause-fault
returns-in_err-list_of-clause-fault c = λ f.
    let none = group_fault-none c.as_slice-octets.result.now c.args.depth c.in_ok-count.ensures.whole.0 c.in_ok-count.ensures.whole.2 in
    let p = err_from_is_err_and c.from_residual-in_err-list_of.result c.from_residual-in_err-list_of.ensures.1 in
    rw (← c.as_slice-octets.ensures) (λ o. absurd cc, λ k. absurd cc)

pub returns-clause-reading : goal.returns-clause-reading
returns-clause-reading c =
    rw (← c.as_slice-octets.ensures)
    (few_listed c.as_slice-octets.result.now c.args.depth c.in_ok-count.count c.in_ok-list_of.field-0 c.in_ok-count.ensures.whole c.in_ok-list_of.ensures)

pub returns-clause-parts : goal.returns-clause-parts
returns-clause-parts c = avps_in-only c.args.avp.now.octets c.in_ok-list_of.field-0 [] (returns-clause-reading c).2 (inl refl)

pub returns-clause-whole : goal.returns-clause-whole
returns-clause-whole c = group_fault-none c.args.avp.now.octets c.args.depth c.in_ok-list_of.field-0 (returns-clause-reading c)

pub returns-clause-fault : goal.returns-clause-fault
returns-clause-fault c = λ f.
    let none = returns-clause-whole c in
    (λ o. absurd cc, λ k. absurd cc)
