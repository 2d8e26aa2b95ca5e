-- What is wanted at a place.
use Rattle.config_text.specs.declared.fault.Fault.{Fault}
use Rattle.config_text.specs.declared.fault.Wanted.{Wanted}
use Rattle.config_text.specs.declared.place.Place.{Place}

abbrev pub fault_at : Place → Wanted → Fault
fault_at place wanted = record { place = place; wanted = wanted }
