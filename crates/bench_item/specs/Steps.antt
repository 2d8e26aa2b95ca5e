-- Faults of steps by number, and which of two sources is meant.
use Rattle.std.specs.Prelude.{ℕ, ◌==◌, Bool, true, false}
use Rattle.bench_item.specs.declared.source.Source.{Source}
use Rattle.bench_item.specs.declared.source.Source.TheVariants.{Line, Shard, Desk, Clock}
use Rattle.bench_item.specs.declared.step.StepFault.{StepFault}
use Rattle.bench_item.specs.declared.step.StepFault.TheVariants.{Unknown, Closed, Paused, Nothing, Full, NoMemory}

-- the number that is printed for a fault
abbrev pub number_of : StepFault → ℕ
number_of Nothing = 1
number_of Unknown = 2
number_of Closed = 3
number_of Full = 4
number_of NoMemory = 5
number_of Paused = 6

-- whether two sources are one
abbrev pub is_same_source : Source → Source → Bool
is_same_source (Line a) (Line b) = a == b
is_same_source (Shard a) (Shard b) = a == b
is_same_source (Desk a) (Desk b) = a == b
is_same_source Clock Clock = true
is_same_source one other = false
