-- The parts of two shards and two desks are gathered to the world of their log.
use Rattle.std.proofs.Common.{refl}
use Rattle.std.specs.Prelude.{Ok}
use Rattle.bench_spec.specs.ChargeLog.{log, settings}
use Rattle.bench_spec.specs.Desks.{Gathers}
use Rattle.bench_spec.specs.MergedLog.{parts}
use Rattle.bench_spec.specs.Taken.{opened, with_log}
use Rattle.bench_spec.proofs.ChargeLemmas.{is_legal}
use Rattle.bench_spec.proofs.MergedLemmas.{is_merged}

pub is_gathered : Gathers settings parts (Ok (with_log (opened settings) log))
is_gathered = (log, is_merged, is_legal, refl)
