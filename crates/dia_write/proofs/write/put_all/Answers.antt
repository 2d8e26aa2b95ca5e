use Rattle.std.proofs.Common.{◌++◌, [], length, ◌∙◌, arith}
use Rattle.dia_avp.specs.Encoding.{encoding}
use Rattle.dia_command.specs.Header.{header_octets}
use Rattle.dia_write.specs.Values.{values_avps}
use Rattle.dia_write.proofs.WriteLemmas.{length-parts, encoding-parts}
use Rattle.dia_write.proofs.FillLemmas.{filled-start, filled-same, filled-to, filled-whole}
use Rattle.dia_write.proofs.write.put_all.Goals as goal

pub put_fields-to-requires-clause-short : goal.put_fields-to-requires-clause-short
put_fields-to-requires-clause-short c = omega (arith, c.requires.short, c.requires.len, length-parts (values_avps c.args.format.now c.args.fields.now) c.args.rest.now)

pub put_fields-to-requires-clause-fits : goal.put_fields-to-requires-clause-fits
put_fields-to-requires-clause-fits c = omega (arith, c.put.ensures.len, c.requires.len, length-parts (values_avps c.args.format.now c.args.fields.now) c.args.rest.now)

pub put_avps-requires-clause-short : goal.put_avps-requires-clause-short
put_avps-requires-clause-short c = rw c.as_slice.ensures (omega (arith, c.requires.short, c.requires.len, length-parts (values_avps c.args.format.now c.args.fields.now) c.args.rest.now))

pub put_avps-requires-clause-fits : goal.put_avps-requires-clause-fits
put_avps-requires-clause-fits c = rw c.as_slice.ensures (omega (arith, c.put.ensures.len, c.put_fields-to.ensures.len, c.put_fields-to.ensures.end, c.requires.len, length-parts (values_avps c.args.format.now c.args.fields.now) c.args.rest.now))

pub returns : goal.returns
returns c =
    let list = values_avps c.args.format.now c.args.fields.now in
    let hd = header_octets c.args.header.now (length c.args.room.now) in
    let first = c.put.ensures.filled [] (filled-start c.args.room.now c.requires.zeros) in
    let head = filled-to c.put.new.room hd _ 20 (omega arith) (filled-same c.put.new.room _ hd _ c.octets.ensures first) in
    let fields = c.put_fields-to.ensures.filled hd head in
    let all = rw c.as_slice.ensures at (c.put_avps.ensures.filled (hd ++ encoding list) fields) in
    let end = rw c.as_slice.ensures at c.put_avps.ensures.end in
    filled-whole c.put_avps.new.room ((hd ++ encoding list) ++ encoding c.args.rest.now) c.put_avps.result
    (omega (arith, end, c.put.ensures.len, c.put_fields-to.ensures.len, c.put_avps.ensures.len, c.put_fields-to.ensures.end, c.requires.len, length-parts list c.args.rest.now)) all
    ∙ encoding-parts hd list c.args.rest.now
