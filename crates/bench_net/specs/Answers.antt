-- What a port's answer means to what it was offered.
use Rattle.std.specs.Prelude.{Result, Ok, Err}
use Rattle.bench_net.specs.declared.refusal.Refusal.{Refusal}
use Rattle.bench_net.specs.declared.refusal.Refusal.TheVariants as refusals
use Rattle.bench_net.specs.declared.settle.Answer.{Answer}
use Rattle.bench_net.specs.declared.settle.Answer.TheVariants.{Taken, Declined}
use Rattle.bench_net.specs.declared.settle.Stop.{Stop}
use Rattle.bench_net.specs.declared.settle.Stop.TheVariants as stops

-- taken; not wanted, where there is no such connection or it is closed; wanted later,
-- where there is no room or no memory
abbrev pub meaning_of : {T : Type 0} → Result T Refusal → Result Answer Stop
meaning_of (Ok x) = Ok Taken
meaning_of (Err refusals.Unknown) = Ok Declined
meaning_of (Err refusals.Closed) = Ok Declined
meaning_of (Err refusals.Full) = Err stops.Full
meaning_of (Err refusals.NoMemory) = Err stops.NoMemory
