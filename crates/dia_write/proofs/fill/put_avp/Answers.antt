use Rattle.std.proofs.Common.{◌≡◌, ◌+◌, ◌++◌, length, refl, ap, ◌∙◌, arith}
use Rattle.dia_avp.specs.View.{seen}
use Rattle.dia_avp.specs.Encoding.{vendor_id}
use Rattle.dia_avp.proofs.Encoded.{length_encoded}
use Rattle.dia_write.proofs.FillLemmas.{header_by, length_parts, filled-same, filled-to, filled-avp}
use Rattle.dia_write.proofs.fill.put_avp.Goals as goal

pub put-requires : goal.put-requires
put-requires c =
    let eight : length c.header_of.result ≡ 8 = ap length c.header_of.ensures in
    omega (arith, eight, c.requires.fits, length_encoded (seen c.args.avp.now), length_parts (seen c.args.avp.now))

pub put_vendor-to-requires : goal.put_vendor-to-requires
put_vendor-to-requires c =
    omega (arith, c.put.ensures.len, c.requires.fits, length_encoded (seen c.args.avp.now), length_parts (seen c.args.avp.now))

pub put-requires-2 : goal.put-requires-2
put-requires-2 c =
    omega (arith, c.put.ensures.len, c.put_vendor-to.ensures.len, c.put_vendor-to.ensures.end, c.requires.fits, length_encoded (seen c.args.avp.now), length_parts (seen c.args.avp.now))

pub returns-clause-end : goal.returns-clause-end
returns-clause-end c = omega (arith, length_encoded (seen c.args.avp.now), c.length_of-len.ensures.is, c.div_ceil.ensures)

pub returns-clause-filled : goal.returns-clause-filled
returns-clause-filled c = λ front f.
    let a = seen c.args.avp.now in
    let hd : c.header_of.result ≡ header_by a = c.header_of.ensures ∙ rw (c.flags_of-flags.ensures, c.length_of-len.ensures.is) refl in
    let eight : length c.header_of.result ≡ 8 = ap length hd in
    let room = c.put-2.ensures.len in
    let ends = returns-clause-end c in
    let first = filled-to c.put.new.room (front ++ header_by a) _ (c.args.at + 8) (omega (arith, eight)) (filled-same c.put.new.room (front ++ c.header_of.result) (front ++ header_by a) _ (ap (λ l. front ++ l) hd) (c.put.ensures.filled front f)) in
    let second = c.put_vendor-to.ensures.filled (front ++ header_by a) first in
    let third = c.put-2.ensures.filled ((front ++ header_by a) ++ vendor_id a.vendor) second in
    filled-avp c.put-2.new.room front a c.args.at _ _ f.place ends (omega (arith, ends, c.requires.fits, c.put.ensures.len, c.put_vendor-to.ensures.len, c.put-2.ensures.len)) third
