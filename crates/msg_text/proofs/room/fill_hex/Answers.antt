use Rattle.std.proofs.Common.{sym, arith}
use Rattle.base_text.proofs.HexText.{encode_lower-nil, two_more}
use Rattle.msg_text.proofs.room.fill_hex.Goals as goal

pub loop-place-init : goal.loop-place-init
loop-place-init c = sym encode_lower-nil

-- the digits of one octet more
pub loop-place-preserved : goal.loop-place-preserved
loop-place-preserved c = two_more c.loop-place.room c.args.octets.now c.loop-place.place c.digit.result c.digit-in-loop-place.result c.loop-place-test.true (omega arith) c.loop-place.invariant c.digit.ensures c.digit-in-loop-place.ensures
