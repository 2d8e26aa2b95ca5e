-- Why a command is refused, as it is printed.
use Rattle.std.specs.Prelude.{ℕ, List, ◌++◌, codes, decimal, Result, Ok, Err}
use Rattle.bench_item.specs.Steps as steps
use Rattle.debug_text.specs.declared.command.CommandFault.{CommandFault}
use Rattle.debug_text.specs.declared.command.CommandFault.TheVariants.{UnknownCommand, BadNumber, NoSuchMachine}
use Rattle.debug_text.specs.declared.command.CommandFault.TheVariants.{NoSuchBreakpoint, AtStart, TooManyBreakpoints}
use Rattle.debug_text.specs.declared.command.CommandFault.TheVariants.{NoMemory, StepRefused, NoSuchAccount, NoSuchRow}

-- the number that is printed for a fault
abbrev pub number_of : CommandFault → ℕ
number_of UnknownCommand = 1
number_of BadNumber = 2
number_of NoSuchMachine = 3
number_of NoSuchBreakpoint = 4
number_of AtStart = 5
number_of TooManyBreakpoints = 6
number_of NoMemory = 7
number_of (StepRefused fault) = 8
number_of NoSuchAccount = 9
number_of NoSuchRow = 10

-- `fault N`, and behind it the number of a step's fault where a step was refused
abbrev pub fault_text : CommandFault → List ℕ
fault_text (StepRefused fault) = codes "fault 8 " ++ decimal (steps.number_of fault) ++ codes "\n"
fault_text fault = codes "fault " ++ decimal (number_of fault) ++ codes "\n"

-- why there is no answer where this would be it: its own fault, or else want of memory
abbrev pub fault_in : {T : Type 0} → Result T CommandFault → CommandFault
fault_in (Ok answer) = NoMemory
fault_in (Err fault) = fault
