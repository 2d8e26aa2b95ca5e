use Rattle.std.proofs.Common.{◌≡◌, ◌++◌, ◌≤◌, take, All, vec_capacity}
use Rattle.dia_avp.specs.Encoding.{encoding}
use Rattle.dia_avp.specs.Writing.{HasNumbers}
use Rattle.dia_avp.proofs.writing.put_avps.Given as goal

abbrev pub invariant-loop-avp : goal.invariant-loop-avp
invariant-loop-avp l = record {
  items : l.out.items ≡ l.fn.out.items ++ encoding (take l.avp-index l.avps);
  room : vec_capacity l.fn.out ≤ vec_capacity l.out;
  numbers : All HasNumbers (take l.avp-index l.avps);
}
