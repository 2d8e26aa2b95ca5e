use Rattle.std.proofs.Common.{◌≡◌, take}
use Rattle.std.specs.List.{list_all}
use Rattle.bench_parts.specs.Views.{kept_in}
use Rattle.bench_gather.specs.Checks.{is_did}
use Rattle.bench_gather.proofs.stand.looks_stand.Given as goal

-- whether the parts so far have no looks
abbrev pub invariant-loop-place : goal.invariant-loop-place
invariant-loop-place l = l.stand ≡ list_all (λ part. list_all is_did (kept_in part)) (take l.place l.parts)
