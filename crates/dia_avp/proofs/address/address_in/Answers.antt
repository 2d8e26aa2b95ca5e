use Rattle.std.proofs.Common.{rules, refl, sym, ◌∙◌, ◌-◌, length, drop, arith}
use Rattle.std.proofs.lemmas.List.{length-take, length-drop}
use Rattle.dia_avp.proofs.Bytes.{IsBytes-fits}
use Rattle.dia_avp.proofs.FieldLaws.{is_address-short, is_address-v4, is_address-v6, family_and}
use Rattle.dia_avp.proofs.address.address_in.Goals as goal

pub returns-then-octets-lt2-clause-refused : goal.returns-then-octets-lt2-clause-refused
returns-then-octets-lt2-clause-refused c = (refl, is_address-short c.args.octets.now (omega arith))

pub returns-in-Err-clause-refused : goal.returns-in-Err-clause-refused
returns-in-Err-clause-refused c =
    let octets = c.args.octets.now in
    (refl, is_address-v4 octets (omega arith) (sym c.read_u16-family.ensures ∙ c.in-1.is) (λ e. c.in-Err.ensures.1 (omega (arith, length-take (length octets - 2) (drop 2 octets), length-drop 2 octets))))

pub returns-in-Err-try_into-clause-refused : goal.returns-in-Err-try_into-clause-refused
returns-in-Err-try_into-clause-refused c =
    let octets = c.args.octets.now in
    (refl, is_address-v6 octets (omega arith) (sym c.read_u16-family.ensures ∙ c.in-2.is) (λ e. c.in-Err-try_into.ensures.1 (omega (arith, length-take (length octets - 2) (drop 2 octets), length-drop 2 octets))))

pub returns-in_default-clause-value : goal.returns-in_default-clause-value
returns-in_default-clause-value c = (
  c.read_u16-family.type_inv,
  search rules,
  search rules,
  family_and c.args.octets.now c.read_u16-family.result (IsBytes-fits _ c.type_inv.octets) (omega arith) c.read_u16-family.ensures,
)
