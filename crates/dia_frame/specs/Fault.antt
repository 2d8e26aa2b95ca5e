-- The numbers that are printed for the faults of a stream.
use Rattle.std.specs.Prelude.{ℕ}
use Rattle.dia_frame.specs.declared.fault.FrameFault.{FrameFault}
use Rattle.dia_frame.specs.declared.fault.FrameFault.TheVariants.{Version, Length, Broken}

-- 1 for the version, 2 for the length, 3 for a fault that came before
abbrev pub fault_number : FrameFault → ℕ
fault_number Version = 1
fault_number Length = 2
fault_number Broken = 3
