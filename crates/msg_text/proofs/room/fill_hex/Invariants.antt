use Rattle.std.proofs.Common.{◌≡◌, ◌*◌, take}
use Rattle.hex.specs.Hex.{encode_lower}
use Rattle.msg_text.proofs.room.fill_hex.Given as goal

-- the digits of the octets so far
abbrev pub invariant-loop-place : goal.invariant-loop-place
invariant-loop-place l = take (2 * l.place) l.room ≡ encode_lower (take l.place l.octets)
