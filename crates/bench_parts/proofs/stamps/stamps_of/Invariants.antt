use Rattle.std.proofs.Common.{◌≡◌, map, take}
use Rattle.bench_parts.specs.Views.{stamps_in}
use Rattle.bench_parts.proofs.stamps.stamps_of.Given as goal

-- those of the parts so far
abbrev pub invariant-loop-part : goal.invariant-loop-part
invariant-loop-part l = l.all.items ≡ map stamps_in (take l.part-index l.parts)
