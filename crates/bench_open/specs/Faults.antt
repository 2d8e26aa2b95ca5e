-- Why a bench is not opened, as `bench_spec` has it, and when want of memory may be told.
use Rattle.std.specs.Prelude.{◌≡◌, ◌<◌, length, Option, Some, None}
use Rattle.bench_spec.specs.Opening.{Config, opening_refusal}
use Rattle.bench_spec.specs.declared.opening.OpeningError.{OpeningError}
use Rattle.bench_spec.specs.declared.opening.OpeningError.TheVariants as errors
use Rattle.bench_open.specs.declared.fault.OpeningFault.{OpeningFault}
use Rattle.bench_open.specs.declared.fault.OpeningFault.TheVariants as faults

-- a fault as an error
abbrev pub error_of : OpeningFault → OpeningError
error_of faults.Limits = errors.Limits
error_of faults.Names = errors.Names
error_of faults.Laws = errors.Laws
error_of (faults.Unbound name) = errors.Unbound name.now
error_of faults.Account = errors.Account

-- memory may be wanting where nothing is in the way, and to copy a name of more than 32 octets
abbrev pub MayLackMemory : Option OpeningError → Type 0
MayLackMemory None = Unit {0}
MayLackMemory (Some (errors.Unbound name)) = 32 < length name
MayLackMemory (Some error) = ⊥

-- the error for a refusal, or want of memory where that may be
abbrev pub IsErrorFor : Option OpeningError → OpeningError → Type 0
IsErrorFor refusal errors.NoMemory = MayLackMemory refusal
IsErrorFor refusal error = refusal ≡ Some error

-- the error of an opening: the first reason, or want of memory where nothing is in the way,
-- or for the copy of a long name
abbrev pub IsOpeningError : Config → OpeningError → Type 0
IsOpeningError config error = IsErrorFor (opening_refusal config) error
