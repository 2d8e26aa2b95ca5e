use Rattle.std.proofs.Common.{◌≡◌, false, [], take}
use Rattle.bench_item.specs.Past.{any_after}
use Rattle.bench_spec.specs.Opening.{is_repeated}
use Rattle.bench_open.proofs.names.has_repeated.Given as goal

abbrev pub invariant-loop-i : goal.invariant-loop-i
invariant-loop-i l = any_after is_repeated [] (take l.i l.hosts) ≡ false
