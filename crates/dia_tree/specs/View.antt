-- What a fault is whose failed AVP lies in octets.
use Rattle.std.specs.Prelude.{◌<◌, Bool, ◌&&◌, length, Option, None, Some}
use Rattle.std.specs.Option.{option_map}
use Rattle.dia_avp.specs.declared.avp.Avp.{Avp}
use Rattle.dia_avp.specs.View.{seen}
use Rattle.dia_avp.specs.Reading.{avps_in}
use Rattle.dia_tree.specs.declared.fault.FaultView.{FaultView}
use Rattle.dia_tree.specs.declared.fault.MsgFault.{MsgFault}
use Rattle.dia_tree.specs.declared.event.Event.{Event}
use Rattle.dia_tree.specs.Faults.{has_event_type}

-- the fault as a value
abbrev pub seen_fault : FaultView → MsgFault
seen_fault f = record { result = f.result; failed = option_map seen f.failed }

-- whether a message is an EVENT request, as its AVPs say
abbrev pub is_event : Event → Bool
is_event e = e.credit && has_event_type (avps_in e.octets.now).0

-- whether a fault's failed AVP has more data than are copied without memory: more than 32 octets
abbrev pub HasLongData : Option Avp → Type 0
HasLongData None = ⊥
HasLongData (Some a) = 32 < length a.octets
