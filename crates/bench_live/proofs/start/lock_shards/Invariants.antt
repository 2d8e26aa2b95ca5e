use Rattle.std.proofs.Common.{◌≡◌, ◌+◌, map, vec_len}
use Rattle.live_open.specs.Opening.{Agree}
use Rattle.bench_live.proofs.start.lock_shards.Given as goal

-- those that are left agree, and there are as many as there were
abbrev pub invariant-shards : goal.invariant-shards
invariant-shards g l = Agree l.left.items (map (λ r. r.book) l.calls.items) × (vec_len l.shards + vec_len l.left ≡ vec_len l.fn.parts)

abbrev pub decreases-shards : goal.decreases-shards
decreases-shards g l = vec_len l.left
