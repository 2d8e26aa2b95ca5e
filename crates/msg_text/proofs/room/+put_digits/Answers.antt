use Rattle.std.proofs.Common.{◌<◌, ◌+◌, ◌%◌, length, arith}
use Rattle.msg_text.proofs.Rooms.{length_one, length_more, Puts-digit, Puts-digits}
use Rattle.msg_text.proofs.room.+put_digits.Goals as goal

pub bounds-room-at : goal.bounds-room-at
bounds-room-at t c = omega (arith, c.requires, length_one c.args.number c.if-number-lt10.true)

pub returns-then-number-lt10-clause-puts : goal.returns-then-number-lt10-clause-puts
returns-then-number-lt10-clause-puts t c =
    let number = c.args.number in
    let less = c.if-number-lt10.true in
    Puts-digit c.args.room.now c.args.at number (number + 48) less (omega (arith, c.requires, length_one number less)) (omega arith)

pub returns-then-number-lt10-clause-end : goal.returns-then-number-lt10-clause-end
returns-then-number-lt10-clause-end t c = omega (arith, length_one c.args.number c.if-number-lt10.true)

pub put_digits-end-requires : goal.put_digits-end-requires
put_digits-end-requires t c =
    let most = c.if-number-lt10.false in
    (omega (arith, c.decreases, most), omega (arith, c.requires, length_more c.args.number most c.ranges.number.fits))

pub bounds-room-end : goal.bounds-room-end
bounds-room-end t c =
    let before = c.put_digits-end.ensures in
    omega (arith, c.requires, before.end, before.len, length_more c.args.number c.if-number-lt10.false c.ranges.number.fits)

-- the last digit behind the others
pub returns-clause-puts : goal.returns-clause-puts
returns-clause-puts t c =
    let number = c.args.number in
    let most = c.if-number-lt10.false in
    let less = c.ranges.number.fits in
    let before = c.put_digits-end.ensures in
    let fits : c.put_digits-end.result < length c.put_digits-end.new.room = omega (arith, c.requires, before.end, before.len, length_more number most less) in
    Puts-digits c.args.room.now c.put_digits-end.new.room c.args.at c.put_digits-end.result number (number % 10 + 48) most less fits (omega arith) before.puts

pub returns-clause-end : goal.returns-clause-end
returns-clause-end t c = omega (arith, c.put_digits-end.ensures.end, length_more c.args.number c.if-number-lt10.false c.ranges.number.fits)
