-- What a call of pump comes to.
use Rattle.std.specs.Prelude.{◌≡◌, ◌<◌, ◌⊎◌, ℕ, ◌+◌, ◌^◌, max, Bool, true, false, List, [], Option, Result}
use Rattle.std.specs.Prelude.{Ok, Err, length}
use Rattle.std.specs.Io.KnownBytes.{IsAtEnd}
use Rattle.std.specs.List.{concat}
use Rattle.bench_net.specs.Events.{Event, HasDeclined}
use Rattle.bench_net.specs.Pipes.{IsHeld, waiting}
use Rattle.bench_net.specs.Readings.{Hears}
use Rattle.bench_net.specs.declared.pipe.Pipe.{Pipe}
use Rattle.bench_net.specs.declared.fault.PumpFault.{PumpFault}
use Rattle.bench_net.specs.declared.fault.Pumped.{Pumped}
use Rattle.bench_net.specs.declared.fault.PumpCode.{PumpCode}
use Rattle.bench_net.specs.declared.fault.PumpCode.TheVariants as codes
use Rattle.bench_net.specs.declared.refusal.Refusal.{Refusal}
use Rattle.bench_net.specs.declared.refusal.Refusal.TheVariants as refusals
use Rattle.bench_net.specs.declared.end.End.{End}
use Rattle.bench_net.specs.declared.end.End.TheVariants as ends
use Rattle.bench_net.specs.declared.settle.Stop.{Stop}
use Rattle.bench_net.specs.declared.settle.Stop.TheVariants as stops

-- the fault of a port that holds things up
abbrev pub code_by : Stop → PumpCode
code_by stops.Full = codes.Full
code_by stops.NoMemory = codes.NoMemory

-- whether the input ended
abbrev pub is_ended : End → Bool
is_ended ends.Ended = true
is_ended end = false

-- how many octets were read and how many went out
abbrev pub read_of : Result Pumped PumpFault → ℕ
read_of (Ok pumped) = pumped.read
read_of (Err fault) = fault.read

abbrev pub written_of : Result Pumped PumpFault → ℕ
written_of (Ok pumped) = pumped.written
written_of (Err fault) = fault.written

-- the greatest of a source's counts, and of a sink's
abbrev pub most_read : {I : Type 0} → (reads failures blocked : I → ℕ) → I → ℕ
most_read reads failures blocked source = max (max (reads source) (failures source)) (blocked source)

abbrev pub most_written : {O : Type 0} → (writes failures idle blocked : O → ℕ) → O → ℕ
most_written writes failures idle blocked sink =
    max (max (max (writes sink) (failures sink)) (idle sink)) (blocked sink)

-- after a fault of a device or of turns the line is lost, and all that was read was handed on, but behind a write
-- fault; where the port holds things up, it is lost only where the input ended
abbrev pub IsLeft : {I : Type 0} → (I → Option (List ℕ)) → (pipe pipe' : Pipe) → I → List (List ℕ) → Bool → PumpCode
    → Type 0
IsLeft remaining pipe pipe' source' pieces lost codes.ReadFault =
    ((lost ≡ true) ⊎ (pipe.losing ≡ true)) × (pipe'.kept ≡ 0)
IsLeft remaining pipe pipe' source' pieces lost codes.WriteFault = (lost ≡ true) ⊎ (pipe.losing ≡ true)
IsLeft remaining pipe pipe' source' pieces lost codes.TurnsOver =
    ((lost ≡ true) ⊎ (pipe.losing ≡ true)) × ((pipe'.kept ≡ 0) ⊎ (pieces ≡ []))
IsLeft remaining pipe pipe' source' pieces lost codes.Full = lost ≡ true → IsAtEnd (remaining source')
IsLeft remaining pipe pipe' source' pieces lost codes.NoMemory = lost ≡ true → IsAtEnd (remaining source')

-- where all was done, nothing waits in the pipe, and either the input ended and the line is lost, or the source would
-- have had to wait, or the port has no use for more
abbrev pub IsLeftBy : {P I : Type 0} → (P → Event → Refusal → Type 0) → (I → Option (List ℕ)) → (blocked : I → ℕ) → P
    → (pipe pipe' : Pipe) → (source source' : I) → List (List ℕ) → Bool → Result Pumped PumpFault → Type 0
IsLeftBy refuses remaining blocked port' pipe pipe' source source' pieces lost (Ok pumped) =
    (waiting pipe' ≡ [])
    × (((lost ≡ true) × IsAtEnd (remaining source'))
    ⊎ ((lost ≡ false) × ((blocked source' ≡ blocked source + 1) ⊎ HasDeclined refuses port')))
IsLeftBy refuses remaining blocked port' pipe pipe' source source' pieces lost (Err fault) =
    IsLeft remaining pipe pipe' source' pieces lost fault.code

-- These pieces, joined, were read, and they and then the loss, if there was one, were handed on behind what waited in
-- the pipe, in that order and each once, but for what waits there now.
abbrev pub IsHeard : {P I : Type 0} → (P → Event → P → Type 0) → (P → Event → Refusal → Type 0) → (P → Option (List ℕ))
    → (I → Option (List ℕ)) → (blocked : I → ℕ) → (port port' : P) → (pipe pipe' : Pipe) → (source source' : I)
    → Result Pumped PumpFault → Type 0
IsHeard takes refuses sent remaining blocked port port' pipe pipe' source source' result =
    (pieces : List (List ℕ)) × (lost : Bool)
    × (length (concat pieces) ≡ read_of result)
    × Hears takes refuses sent remaining port port' (waiting pipe) (waiting pipe') source source' pieces lost
    × IsLeftBy refuses remaining blocked port' pipe pipe' source source' pieces lost result

-- which device failed
abbrev pub HasFailed : {I O : Type 0} → (I → ℕ) → (O → ℕ) → (source source' : I) → (sink sink' : O) → PumpCode → Type 0
HasFailed read_failures write_failures source source' sink sink' codes.ReadFault =
    (read_failures source' ≡ read_failures source + 1) × (write_failures sink' ≡ write_failures sink)
HasFailed read_failures write_failures source source' sink sink' codes.WriteFault =
    (read_failures source' ≡ read_failures source) × (write_failures sink' ≡ write_failures sink + 1)
HasFailed read_failures write_failures source source' sink sink' code =
    (read_failures source' ≡ read_failures source) × (write_failures sink' ≡ write_failures sink)

-- a read fault comes where a read failed, a write fault where a write failed, and nothing else where one did
abbrev pub HasCause : {I O : Type 0} → (I → ℕ) → (O → ℕ) → (source source' : I) → (sink sink' : O)
    → Result Pumped PumpFault → Type 0
HasCause read_failures write_failures source source' sink sink' (Ok pumped) =
    (read_failures source' ≡ read_failures source) × (write_failures sink' ≡ write_failures sink)
HasCause read_failures write_failures source source' sink sink' (Err fault) =
    HasFailed read_failures write_failures source source' sink sink' fault.code

-- the port refuses what waits first in the pipe
abbrev pub IsHeldBy : {P : Type 0} → (P → Event → Refusal → Type 0) → P → Pipe → PumpCode → Type 0
IsHeldBy refuses port' pipe' codes.Full = IsHeld refuses port' pipe' refusals.Full
IsHeldBy refuses port' pipe' codes.NoMemory = IsHeld refuses port' pipe' refusals.NoMemory
IsHeldBy refuses port' pipe' code = Unit {0}

-- 65,536 reads and writes were made, or a device had made more than 2^63 calls of a kind before
abbrev pub IsOver : {I O : Type 0} → (reads read_failures read_blocked : I → ℕ)
    → (writes write_failures idle write_blocked : O → ℕ) → (source source' : I) → (sink sink' : O) → Type 0
IsOver reads read_failures read_blocked writes write_failures idle write_blocked source source' sink sink' =
    (reads source' + writes sink' ≡ reads source + writes sink + 65536)
    ⊎ (2 ^ 63 < max (most_read reads read_failures read_blocked source)
    (most_written writes write_failures idle write_blocked sink))
