use Rattle.std.proofs.Common.{subst}
use Rattle.tab_load.specs.Code.{IsRefusal}
use Rattle.tab_load.specs.Loading.{HasFault}
use Rattle.tab_load.specs.declared.fault.LoadError.{LoadError}
use Rattle.image_text.proofs.reading.read_image.Goals as goal

-- the image has a fault
pub returns-clause-err : goal.returns-clause-err
returns-clause-err c =
    let wrong : HasFault c.args.book.now c.deref.result.now c.in-Err-Refused.fault.at c.in-Err-Refused.fault.code =
    subst (λ (e : LoadError). IsRefusal (HasFault c.args.book.now c.deref.result.now) e) c.in-Err-Refused.field-0-is c.in-Err-Refused.ensures.err in
    (c.in_ok-octets.octets.items, c.in_ok-octets.ensures.ok, rw (← c.deref.ensures.value) wrong)
