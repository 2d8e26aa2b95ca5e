use Rattle.std.proofs.Common.{◌≡◌, ◌+◌, ◌++◌, ◌≤◌, map, vec_len, length}
use Rattle.std.specs.Vec.{vec_capacity}
use Rattle.bench_live.proofs.parts.take_desks.Given as goal

-- those that were taken and those that are left are all, and there is room for these
abbrev pub invariant-loop-desk : goal.invariant-loop-desk
invariant-loop-desk g l = record {
  all : l.own.items ++ map (λ d. d.desk) l.desk-iterator.rest.items ≡ map (λ d. d.desk) l.fn.desks.items;
  room : vec_len l.own + length l.desk-iterator.rest.items ≤ vec_capacity l.own;
}
