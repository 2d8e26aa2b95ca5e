-- What was logged is gathered.
use Rattle.std.proofs.Common.{◌≡◌, Result, Ok, Err, inl, inr}
use Rattle.bench_gather.specs.declared.fault.GatherFault.{GatherFault}
use Rattle.bench_gather.specs.declared.fault.GatherFault.TheVariants.{Disagree, Full, NoMemory}
use Rattle.bench_live.specs.declared.parts.Logged.{Logged}
use Rattle.bench_spec.specs.Taken.{Run}
use Rattle.thread_node.specs.Ended.{Ends, HasGatheredOn}
use Rattle.thread_node.specs.Nodes.{NodeView}

-- with all that was fed
pub ends_by : (old : NodeView) (run : Run) (logged : Logged) (result : Result (Unit {0}) GatherFault) → logged.fed.items ≡ old.fed
    → HasGatheredOn old.run run logged result → Ends old run result
ends_by old run logged (Ok done) fed (inl gathers) = inr (record { logged = logged; fed = fed; gathers = gathers })
ends_by old run logged (Err Full) fed (inl gathers) = record { logged = logged; fed = fed; gathers = gathers }
ends_by old run logged (Err (Disagree at)) fed (inl gathers) = inl (record { logged = logged; fed = fed; gathers = gathers })
ends_by old run logged (Err NoMemory) fed (inl gathers) = gathers
ends_by old run logged (Ok done) fed (inr others) = let is = others.0 in cc
ends_by old run logged (Err Full) fed (inr others) = let is = others.0 in cc
ends_by old run logged (Err (Disagree at)) fed (inr others) =
    let is = others.0 in
    let zero : at ≡ 0 = cc in
    inr (zero, record { logged = logged; fed = fed; others = others.1; kept = others.2 })
ends_by old run logged (Err NoMemory) fed (inr others) = let is = others.0 in cc

pub ruleset ending = (ends_by)
