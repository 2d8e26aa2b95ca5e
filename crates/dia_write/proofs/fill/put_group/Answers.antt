use Rattle.std.proofs.Common.{◌≡◌, ◌+◌, ◌++◌, false, length, refl, sym, ap, ◌∙◌, arith, append_assoc}
use Rattle.dia_avp.specs.Encoding.{flags_of, header, encoding}
use Rattle.dia_avp.proofs.Encoded.{length_of_group, length_encoded_group, encoded_group}
use Rattle.dia_write.proofs.FillLemmas.{filled-same, filled-to}
use Rattle.dia_write.proofs.fill.put_group.Goals as goal

pub group_len-len-requires : goal.group_len-len-requires
group_len-len-requires c = omega (arith, c.requires.short, length_of_group c.args.code c.args.mandatory c.args.protected c.args.list.now)

pub overflow_cast-len : goal.overflow_cast-len
overflow_cast-len c = omega (arith, c.group_len-len.ensures, c.requires.short, length_of_group c.args.code c.args.mandatory c.args.protected c.args.list.now)

pub header_of-requires : goal.header_of-requires
header_of-requires c = omega (arith, c.group_len-len.ensures, c.requires.short, length_of_group c.args.code c.args.mandatory c.args.protected c.args.list.now)

pub put-requires : goal.put-requires
put-requires c =
    let eight : length c.header_of.result ≡ 8 = ap length c.header_of.ensures in
    omega (arith, eight, c.requires.fits, length_encoded_group c.args.code c.args.mandatory c.args.protected c.args.list.now)

pub put_avps-requires-clause-short : goal.put_avps-requires-clause-short
put_avps-requires-clause-short c =
    rw c.as_slice.ensures (omega (arith, c.requires.short, length_of_group c.args.code c.args.mandatory c.args.protected c.args.list.now))

pub put_avps-requires-clause-fits : goal.put_avps-requires-clause-fits
put_avps-requires-clause-fits c =
    rw c.as_slice.ensures (omega (arith, c.put.ensures.len, c.requires.fits, length_encoded_group c.args.code c.args.mandatory c.args.protected c.args.list.now))

pub returns-clause-end : goal.returns-clause-end
returns-clause-end c =
    let end = rw c.as_slice.ensures at c.put_avps.ensures.end in
    omega (arith, end, length_encoded_group c.args.code c.args.mandatory c.args.protected c.args.list.now)

pub returns-clause-filled : goal.returns-clause-filled
returns-clause-filled c = λ front f.
    let list = c.args.list.now in
    let hd = header c.args.code (flags_of false c.args.mandatory c.args.protected) (8 + length (encoding list)) in
    let is = c.group_len-len.ensures in
    let head : c.header_of.result ≡ hd = c.header_of.ensures ∙ rw (c.flags_of-flags.ensures, is) refl in
    let eight : length c.header_of.result ≡ 8 = ap length head in
    let first = filled-to c.put.new.room (front ++ hd) _ (c.args.at + 8) (omega (arith, eight)) (filled-same c.put.new.room (front ++ c.header_of.result) (front ++ hd) _ (ap (λ l. front ++ l) head) (c.put.ensures.filled front f)) in
    let second = rw c.as_slice.ensures at (c.put_avps.ensures.filled (front ++ hd) first) in
    filled-same c.put_avps.new.room _ _ c.put_avps.result
    (append_assoc front hd (encoding list) ∙ ap (λ l. front ++ l) (sym (encoded_group c.args.code c.args.mandatory c.args.protected list))) second
