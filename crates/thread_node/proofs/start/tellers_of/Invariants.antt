use Rattle.std.proofs.Common.{◌+◌, ◌≤◌, vec_len, length}
use Rattle.std.specs.Vec.{vec_capacity}
use Rattle.thread_node.proofs.start.tellers_of.Given as goal

-- there is room for those that are left
abbrev pub invariant-loop-own : goal.invariant-loop-own
invariant-loop-own g l = vec_len l.tellers + length l.own-iterator.rest.items ≤ vec_capacity l.tellers
