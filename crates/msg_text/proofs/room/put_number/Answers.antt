use Rattle.std.proofs.Common.{◌≡◌, arith, refl}
use Rattle.msg_text.specs.declared.room.TheConstants.{DIGITS}
use Rattle.msg_text.proofs.Rooms.{length_most}
use Rattle.msg_text.proofs.room.put_number.Goals as goal

pub put_digits-requires : goal.put_digits-requires
put_digits-requires c =
    let twenty : DIGITS ≡ 20 = refl in
    omega (arith, c.requires, twenty, length_most c.args.number c.ranges.number.fits)

pub returns-clause-end : goal.returns-clause-end
returns-clause-end c =
    let twenty : DIGITS ≡ 20 = refl in
    omega (arith, c.put_digits.ensures.end, twenty, length_most c.args.number c.ranges.number.fits)
