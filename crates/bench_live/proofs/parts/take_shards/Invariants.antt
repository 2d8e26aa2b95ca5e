use Rattle.std.proofs.Common.{◌≡◌, ◌+◌, ◌≤◌, map, vec_len, length}
use Rattle.std.specs.Vec.{vec_capacity}
use Rattle.bench_live.proofs.parts.take_shards.Given as goal

-- as many are out as locks were opened, and there is room for all
abbrev pub invariant-loop-lock : goal.invariant-loop-lock
invariant-loop-lock g l = record {
  parts : vec_len l.parts + length l.lock-iterator.rest.items ≡ vec_len l.fn.locks;
  calls : vec_len l.calls + length l.lock-iterator.rest.items ≡ vec_len l.fn.locks;
  laws : map (λ r. r.book) l.calls.items ≡ map (λ s. s.tables.laws) l.parts.items;
  room : vec_len l.fn.locks ≤ vec_capacity l.parts;
  room_too : vec_len l.fn.locks ≤ vec_capacity l.calls;
}
