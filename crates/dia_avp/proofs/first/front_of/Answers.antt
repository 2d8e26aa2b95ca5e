use Rattle.std.proofs.Common.{rules, refl}
use Rattle.std.proofs.lemmas.List.{take_rest}
use Rattle.dia_avp.proofs.OneLaws.{first_is}
use Rattle.dia_avp.proofs.first.front_of.Goals as goal

pub returns : goal.returns
returns c =
    first_is c.args.octets.now c.header_len_of-header.result c.read_u24-len.result c.min.result c.read_u32.result c.vendor_of.result _
    c.header_len_of-header.ensures (rw take_rest at c.read_u24-len.ensures) c.if-octets-header.false c.if-len-header.false c.if-octets-len.false
    c.read_u32.ensures c.vendor_of.ensures refl (search rules)
