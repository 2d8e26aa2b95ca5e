use Rattle.std.proofs.Common.{◌≡◌, ◌<◌, ◌^◌, take, length}
use Rattle.dia_avp.specs.Encoding.{encoding}
use Rattle.dia_avp.proofs.length.encoded_len_of.Given as goal

abbrev pub invariant-loop-avp : goal.invariant-loop-avp
invariant-loop-avp l = record { is : l.sum ≡ length (encoding (take l.avp-index l.avps)); fits : l.sum < 2 ^ 64 }
