-- The data of a Grouped AVP: AVPs one after the other (RFC 6733 section 4.4).
use Rattle.std.specs.Prelude.{ℕ, nat_lt, Bool, ◌==◌, ◌&&◌, ◌||◌, List, length, Option, Some, None, if◌then◌else◌}
use Rattle.dia_avp.specs.declared.avp.Avp.{Avp}
use Rattle.dia_avp.specs.declared.fault.FieldFault.{FieldFault}
use Rattle.dia_avp.specs.declared.fault.FieldFault.TheVariants.{BadValue, BadLength}
use Rattle.dia_avp.specs.declared.fault.FaultCode.{FaultCode}
use Rattle.dia_avp.specs.declared.fault.FaultCode.TheVariants.{ShortHeader, LengthBelowHeader, PastEnd, TooMany}
use Rattle.dia_avp.specs.declared.fault.FaultCode.TheVariants.{TooDeep}
use Rattle.dia_avp.specs.Reading.{avps_in}

-- what a fault among a group's AVPs is to the group: too many and too deep are a bad value, a broken AVP a bad length
abbrev pub fault_in_group : FaultCode → FieldFault
fault_in_group ShortHeader = BadLength
fault_in_group LengthBelowHeader = BadLength
fault_in_group PastEnd = BadLength
fault_in_group TooMany = BadValue
fault_in_group TooDeep = BadValue

-- whether more follows behind 128 whole AVPs, be it whole or broken
abbrev pub too_many : List Avp × List ℕ → Bool
too_many parts = nat_lt 128 (length parts.0) || ((length parts.0 == 128) && nat_lt 0 (length parts.1))

-- why AVPs and what is left behind them are no group: too many, or one is broken
abbrev pub parts_fault : List Avp × List ℕ → Option FieldFault
parts_fault parts = if too_many parts then Some BadValue else if nat_lt 0 (length parts.1) then Some BadLength else None

-- why octets are not the data of a group, where they stand within so many groups: over 4, or their parts are none
abbrev pub group_fault : ℕ → List ℕ → Option FieldFault
group_fault depth octets = if nat_lt 4 depth then Some BadValue else parts_fault (avps_in octets)
