-- With which status something is told.
use Rattle.std.specs.Prelude.{Bool, true, false}
use Rattle.base_device.specs.declared.status.Status.{Status}
use Rattle.base_device.specs.declared.status.Status.TheVariants.{Refused, Done}

-- refused or done
abbrev pub told_status : Bool → Status
told_status true = Refused
told_status false = Done
