-- The numbers that stand for faults where they are printed.
use Rattle.std.specs.Prelude.{ℕ}
use Rattle.dia_avp.specs.declared.fault.FaultCode.{FaultCode}
use Rattle.dia_avp.specs.declared.fault.FaultCode.TheVariants.{ShortHeader, LengthBelowHeader, PastEnd, TooMany}
use Rattle.dia_avp.specs.declared.fault.FaultCode.TheVariants.{TooDeep}

-- the number of a fault, 1 to 5
abbrev pub number_of : FaultCode → ℕ
number_of ShortHeader = 1
number_of LengthBelowHeader = 2
number_of PastEnd = 3
number_of TooMany = 4
number_of TooDeep = 5
