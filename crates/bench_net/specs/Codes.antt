-- The numbers of a fault.
use Rattle.std.specs.Prelude.{ℕ}
use Rattle.bench_net.specs.declared.fault.PumpCode.{PumpCode}
use Rattle.bench_net.specs.declared.fault.PumpCode.TheVariants.{ReadFault, WriteFault, TurnsOver, Full, NoMemory}

abbrev pub number_of : PumpCode → ℕ
number_of ReadFault = 1
number_of WriteFault = 2
number_of TurnsOver = 3
number_of Full = 4
number_of NoMemory = 5
