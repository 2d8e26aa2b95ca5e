use Rattle.std.proofs.Common.{◌≡◌, ◌+◌, List, length, ap, arith}
use Rattle.std.proofs.lemmas.Bool.Decides.{nat_tests}
use Rattle.dia_avp.specs.declared.avp.Avp.{Avp}
use Rattle.dia_avp.specs.Encoding.{encoding}
use Rattle.dia_write.specs.Values.{values_avps}
use Rattle.dia_write.proofs.WriteLemmas.{values_avps-none}
use Rattle.dia_write.proofs.write.with_fields.Goals as goal

-- where no fields are left, the sum is that of all
pub returns-else-not-is_empty : goal.returns-else-not-is_empty
returns-else-not-is_empty c =
    let zero : length c.fields.fields.now ≡ 0 = grind (arith, nat_tests) in
    let none = values_avps-none c.fields.format.now c.fields.fields.now zero in
    let left : length (encoding (values_avps c.fields.format.now c.fields.fields.now)) ≡ 0 = ap (λ (l : List Avp). length (encoding l)) none in
    let is : c.fields.len ≡ c.args.start + length (encoding (values_avps c.args.format.now c.args.fields.now)) = omega (arith, c.fields.invariant.is, left) in
    (omega (arith, is, c.fields.invariant.fits), is)
