use Rattle.std.proofs.Common.{◌≡◌, ◌+◌, ◌++◌, ℕ, List, length, take}
use Rattle.dia_avp.specs.Encoding.{encoding}
use Rattle.dia_write.specs.Filling.{IsFilled}
use Rattle.dia_write.proofs.fill.put_avps.Given as goal

abbrev pub invariant-loop-avp : goal.invariant-loop-avp
invariant-loop-avp l = record {
  filled : (front : List ℕ) → IsFilled l.fn.room front l.at → IsFilled l.room (front ++ encoding (take l.avp-index l.avps)) l.to;
  end : l.to ≡ l.at + length (encoding (take l.avp-index l.avps));
  len : length l.room ≡ length l.fn.room;
}
