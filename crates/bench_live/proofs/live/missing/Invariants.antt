use Rattle.std.proofs.Common.{◌≡◌, None}
use Rattle.std.specs.Prelude.{find, not}
use Rattle.std.specs.List.{range_with_len}
use Rattle.bench_live.specs.Ended.{is_among}
use Rattle.bench_live.proofs.live.missing.Given as goal

-- none is missing so far
abbrev pub invariant-loop-number : goal.invariant-loop-number
invariant-loop-number g l = find (λ number. not (is_among (λ d. d.desk) l.desks number)) (range_with_len 0 l.number) ≡ None
