use Rattle.std.proofs.Common.{◌≡◌, take}
use Rattle.std.specs.List.{filter_map}
use Rattle.charge_session.specs.Deeds.{op_of}
use Rattle.bench_gather.proofs.booked.ops_of.Given as goal

-- the operations of the deeds so far
abbrev pub invariant-loop-deed : goal.invariant-loop-deed
invariant-loop-deed l = l.ops.items ≡ filter_map (op_of l.want) (take l.deed-index l.deeds)
