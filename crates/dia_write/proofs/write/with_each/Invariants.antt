use Rattle.std.proofs.Common.{◌≡◌, ◌+◌, ◌<◌, ◌^◌, length, take}
use Rattle.std.specs.List.{flat_map}
use Rattle.dia_write.proofs.WriteLemmas.{coded}
use Rattle.dia_write.proofs.write.with_each.Given as goal

abbrev pub invariant-loop-avp : goal.invariant-loop-avp
invariant-loop-avp g l = record { is : l.len ≡ l.start + length (flat_map (coded g.T.Content.data_of l.code) (take l.avp-index l.list)); fits : l.len < 2 ^ 24 }
