-- What a bench is when it is started, and why it is not.
use Rattle.std.specs.Prelude.{◌≡◌, ℕ, List, [], None, map}
use Rattle.std.specs.List.{range_with_len}
use Rattle.bench_desk.specs.Desks.{DeskView}
use Rattle.bench_open.specs.Faults.{IsOpeningError}
use Rattle.bench_spec.specs.Opening.{Config, opening_refusal}
use Rattle.bench_spec.specs.declared.opening.OpeningError.TheVariants as errors
use Rattle.bench_live.specs.declared.fault.StartFault.{StartFault}
use Rattle.bench_live.specs.declared.fault.StartFault.TheVariants as faults

-- a desk that told nothing yet, and so many of them
abbrev pub desk_at_start : ℕ → ℕ → DeskView
desk_at_start shards number = record { number = number; shards = shards; kept = [] }

abbrev pub desks_at_start : ℕ → ℕ → List DeskView
desks_at_start count shards = map (desk_at_start shards) (range_with_len 0 count)

-- how many desks, shards and pages a bench has
pub record Counts : Type 0 where
  pub desks : ℕ
  pub shards : ℕ
  pub pages : ℕ

-- memory was refused, or a thread could not be made
abbrev pub IsThreadFault : StartFault → Type 0
IsThreadFault (faults.Opening error) = error ≡ errors.NoMemory
IsThreadFault faults.NoThread = Unit {0}

-- the error of an opening; or nothing is in the way, and a thread could not be made
abbrev pub IsStartFault : Config → StartFault → Type 0
IsStartFault config (faults.Opening error) = IsOpeningError config error
IsStartFault config faults.NoThread = opening_refusal config ≡ None
