-- Short AVPs.
use Rattle.std.proofs.Common.{◌≡◌, ◌<◌, ◌≤◌, ◌^◌, length, None, arith}
use Rattle.dia_avp.specs.declared.avp.Avp.{Avp}
use Rattle.dia_avp.specs.Encoding.{length_of}

-- 24 bits hold the length of an AVP of a few octets
pub short_enough : (a : Avp) → a.vendor ≡ None → length a.octets ≤ 8 → length_of a < 2 ^ 24
unfolding length_of
short_enough a none short = rw none (omega (arith, short))
