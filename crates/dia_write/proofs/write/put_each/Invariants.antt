use Rattle.std.proofs.Common.{◌≡◌, ◌+◌, ◌++◌, ℕ, List, length, take}
use Rattle.std.specs.List.{flat_map}
use Rattle.dia_write.specs.Filling.{IsFilled}
use Rattle.dia_write.proofs.WriteLemmas.{coded}
use Rattle.dia_write.proofs.write.put_each.Given as goal

abbrev pub invariant-loop-avp : goal.invariant-loop-avp
invariant-loop-avp g l = record {
  filled : (front : List ℕ) → IsFilled l.fn.room front l.at → IsFilled l.room (front ++ flat_map (coded g.T.Content.data_of l.code) (take l.avp-index l.list)) l.to;
  end : l.to ≡ l.at + length (flat_map (coded g.T.Content.data_of l.code) (take l.avp-index l.list));
  len : length l.room ≡ length l.fn.room;
}
