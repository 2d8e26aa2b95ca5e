-- Why something is not added, and the numbers that stand for it where it is printed.
use Rattle.std.specs.Prelude.{ℕ, Option, Some, None}
use Rattle.base_list.specs.declared.error.AddFault.{AddFault}
use Rattle.base_list.specs.declared.error.AddFault.TheVariants.{Taken, Full}
use Rattle.base_list.specs.declared.error.AddError.{AddError}
use Rattle.base_list.specs.declared.error.AddError.TheVariants.{NoMemory, Fault}

-- the number of a fault
abbrev pub number_of_fault : AddFault → ℕ
number_of_fault Taken = 1
number_of_fault Full = 2

-- the number of an error
abbrev pub number_of : AddError → ℕ
number_of NoMemory = 3
number_of (Fault fault) = number_of_fault fault

-- the error of a refused call: its fault, and want of memory where it has none
abbrev pub error_of : Option AddFault → AddError
error_of None = NoMemory
error_of (Some fault) = Fault fault
