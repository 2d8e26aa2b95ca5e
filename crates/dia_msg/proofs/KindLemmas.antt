-- Formats are short, and no entry of one has another's code.
use Rattle.std.proofs.Common.{◌≡◌, ◌≤◌, Bool, true, length, refl, arith}
use Rattle.dia_command.specs.declared.kind.CommandKind.{CommandKind}
use Rattle.dia_command.specs.declared.kind.CommandKind.TheVariants as kinds
use Rattle.dia_command.specs.Format.{format_of}
use Rattle.dia_msg.specs.Taken.{is_distinct}

pub distinct : (kind : CommandKind) (e : Bool) → is_distinct (format_of kind e) ≡ true
distinct kinds.CapabilitiesExchangeRequest e = refl
distinct kinds.CapabilitiesExchangeAnswer e = refl
distinct kinds.DeviceWatchdogRequest e = refl
distinct kinds.DeviceWatchdogAnswer e = refl
distinct kinds.DisconnectPeerRequest e = refl
distinct kinds.DisconnectPeerAnswer e = refl
distinct kinds.ReAuthRequest e = refl
distinct kinds.ReAuthAnswer e = refl
distinct kinds.CreditControlRequest e = refl
distinct kinds.CreditControlAnswer e = refl
distinct kinds.ErrorAnswer e = refl

pub short_format : (kind : CommandKind) (e : Bool) → length (format_of kind e) ≤ 16
short_format kinds.CapabilitiesExchangeRequest e = omega arith
short_format kinds.CapabilitiesExchangeAnswer e = omega arith
short_format kinds.DeviceWatchdogRequest e = omega arith
short_format kinds.DeviceWatchdogAnswer e = omega arith
short_format kinds.DisconnectPeerRequest e = omega arith
short_format kinds.DisconnectPeerAnswer e = omega arith
short_format kinds.ReAuthRequest e = omega arith
short_format kinds.ReAuthAnswer e = omega arith
short_format kinds.CreditControlRequest e = omega arith
short_format kinds.CreditControlAnswer e = omega arith
short_format kinds.ErrorAnswer e = omega arith
