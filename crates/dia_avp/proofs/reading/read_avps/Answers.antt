use Rattle.std.proofs.Common.{Ok}
use Rattle.std.proofs.lemmas.Result.{err_from_is_err_and}
use Rattle.dia_avp.proofs.ListLaws.{one_reading, listed}
use Rattle.dia_avp.proofs.ReadLaws.{few_listed, exactly_fault, exactly_none, only_fault}
use Rattle.dia_avp.proofs.reading.read_avps.Goals as goal

pub returns-in_err-count-clause-only : goal.returns-in_err-count-clause-only
returns-in_err-count-clause-only c =
    let p = err_from_is_err_and c.from_residual.result c.from_residual.ensures.1 in
    only_fault c.args.octets.now c.args.depth c.from_residual.result p.0 c.in_err-count.field-0.0 p.1 p.2 c.in_err-count.ensures.fault

pub returns-in_err-count-clause-fault : goal.returns-in_err-count-clause-fault
returns-in_err-count-clause-fault c = λ g.
    let p = err_from_is_err_and c.from_residual.result c.from_residual.ensures.1 in
    exactly_fault c.args.octets.now c.args.depth c.from_residual.result p.0 c.in_err-count.field-0.0 g p.1 p.2 c.in_err-count.ensures.fault

pub returns-in_err-list_of-clause-fault : goal.returns-in_err-list_of-clause-fault
returns-in_err-list_of-clause-fault c = λ g.
    exactly_none c.args.octets.now c.args.depth c.from_residual-in_err-list_of.result c.in_ok-count.ensures.whole.0 g c.in_ok-count.ensures.whole.2
    (λ e. let p = err_from_is_err_and c.from_residual-in_err-list_of.result c.from_residual-in_err-list_of.ensures.1 in cc)

pub returns-clause-reading : goal.returns-clause-reading
returns-clause-reading c = few_listed c.args.octets.now c.args.depth c.in_ok-count.count c.in_ok-list_of.field-0 c.in_ok-count.ensures.whole c.in_ok-list_of.ensures

pub returns-clause-only : goal.returns-clause-only
returns-clause-only c = λ other k.
    one_reading c.args.octets.now c.args.depth (listed c.in_ok-list_of.field-0) other (few_listed c.args.octets.now c.args.depth c.in_ok-count.count c.in_ok-list_of.field-0 c.in_ok-count.ensures.whole c.in_ok-list_of.ensures) k

pub returns-clause-fault : goal.returns-clause-fault
returns-clause-fault c = λ g.
    exactly_none c.args.octets.now c.args.depth (Ok c.in_ok-list_of.field-0) c.in_ok-list_of.field-0 g (few_listed c.args.octets.now c.args.depth c.in_ok-count.count c.in_ok-list_of.field-0 c.in_ok-count.ensures.whole c.in_ok-list_of.ensures) (λ e. cc)
