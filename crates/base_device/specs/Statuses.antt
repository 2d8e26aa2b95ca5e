-- The exit status of each way in which a run ends.
use Rattle.std.specs.Prelude.{ℕ}
use Rattle.base_device.specs.declared.status.Status.{Status}
use Rattle.base_device.specs.declared.status.Status.TheVariants.{Done, Refused, Usage, Fault, NoMemory, Disagreed}

-- 0 done, 1 refused input, 2 usage, 3 read or write fault, 4 no memory, 5 threads disagree
abbrev pub code_of : Status → ℕ
code_of Done = 0
code_of Refused = 1
code_of Usage = 2
code_of Fault = 3
code_of NoMemory = 4
code_of Disagreed = 5
