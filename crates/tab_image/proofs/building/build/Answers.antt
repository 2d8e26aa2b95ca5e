use Rattle.tab_image.proofs.BuildLemmas.{no-fault, read-back}
use Rattle.tab_image.proofs.building.build.Goals as goal

pub unreachable-requires : goal.unreachable-requires
unreachable-requires c =
    let numbered = rw c.table.ensures at c.rows-rows.ensures.numbered in
    let wrong = rw c.in-Err-Refused.field-0-is at c.in-Err-Refused.ensures.err in
    let fault = rw (c.as_slice.ensures.value, c.in_ok-octets.ensures.octets) at wrong in
    no-fault c.args.book.now c.args.bound.now numbered c.requires c.in-Err-Refused.field-0-0.at c.in-Err-Refused.field-0-0.code fault

pub returns-in-Ok-clause-image : goal.returns-in-Ok-clause-image
returns-in-Ok-clause-image c =
    let numbered = rw c.table.ensures at c.rows-rows.ensures.numbered in
    let read = rw (c.as_slice.ensures.value, c.in_ok-octets.ensures.octets) at c.in-Ok.ensures.read in
    read-back c.args.book.now c.args.bound.now.table c.in-Ok.program numbered read
