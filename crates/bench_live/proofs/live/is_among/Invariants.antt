use Rattle.std.proofs.Common.{◌≡◌, drop}
use Rattle.std.specs.Prelude.{◌==◌}
use Rattle.std.specs.List.{list_any}
use Rattle.bench_live.proofs.live.is_among.Given as goal

-- it is among those that are left, if it is among all
abbrev pub invariant-loop-own : goal.invariant-loop-own
invariant-loop-own g l = list_any (λ d. d.desk.number == l.number) l.desks ≡ list_any (λ d. d.desk.number == l.number) (drop l.own-index l.desks)
