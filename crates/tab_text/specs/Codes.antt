-- Faults of texts by number.
use Rattle.std.specs.Prelude.{ℕ}
use Rattle.tab_text.specs.declared.fault.TextCode.{TextCode}
use Rattle.tab_text.specs.declared.fault.TextCode.TheVariants.{NoHeader, BadByte, EmptyCell, NoRowToContinue, BadName}
use Rattle.tab_text.specs.declared.fault.TextCode.TheVariants.{TooManyRows, TooManyNames, TooManyInRow, TooLong}

-- the number that stands for a fault in messages
abbrev pub number_of : TextCode → ℕ
number_of NoHeader = 1
number_of BadByte = 2
number_of EmptyCell = 3
number_of NoRowToContinue = 4
number_of BadName = 5
number_of TooManyRows = 6
number_of TooManyNames = 7
number_of TooManyInRow = 8
number_of TooLong = 9
