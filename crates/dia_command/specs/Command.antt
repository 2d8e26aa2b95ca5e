-- Commands by kind, header, fields and rest; and the AVPs as which they are written.
use Rattle.std.specs.Prelude.{ℕ, List, [], ◌∷◌, ◌++◌, false}
use Rattle.std.specs.Option.{option_to_list}
use Rattle.dia_avp.specs.declared.avp.Avp.{Avp}
use Rattle.dia_command.specs.declared.header.Header.{Header}
use Rattle.dia_command.specs.declared.kind.CommandKind.{CommandKind}
use Rattle.dia_command.specs.declared.kind.CommandKind.TheVariants as kinds
use Rattle.dia_command.specs.declared.command.Command.{Command}
use Rattle.dia_command.specs.declared.command.Command.TheVariants.{Cer, Cea, Dwr, Dwa, Dpr, Dpa, Rar, Raa}
use Rattle.dia_command.specs.declared.command.Command.TheVariants.{Ccr, Cca, ErrorAnswer}
use Rattle.dia_command.specs.Format.{format_of}
use Rattle.dia_command.specs.Field.{Field, Octets, Numbers, Types, Actions, Groups, avps_by}

-- which command it is
abbrev pub kind_of : Command → CommandKind
kind_of (Cer c) = kinds.CapabilitiesExchangeRequest
kind_of (Cea c) = kinds.CapabilitiesExchangeAnswer
kind_of (Dwr c) = kinds.DeviceWatchdogRequest
kind_of (Dwa c) = kinds.DeviceWatchdogAnswer
kind_of (Dpr c) = kinds.DisconnectPeerRequest
kind_of (Dpa c) = kinds.DisconnectPeerAnswer
kind_of (Rar c) = kinds.ReAuthRequest
kind_of (Raa c) = kinds.ReAuthAnswer
kind_of (Ccr c) = kinds.CreditControlRequest
kind_of (Cca c) = kinds.CreditControlAnswer
kind_of (ErrorAnswer c) = kinds.ErrorAnswer

-- its header
abbrev pub header_of : Command → Header
header_of (Cer c) = c.header
header_of (Cea c) = c.header
header_of (Dwr c) = c.header
header_of (Dwa c) = c.header
header_of (Dpr c) = c.header
header_of (Dpa c) = c.header
header_of (Rar c) = c.header
header_of (Raa c) = c.header
header_of (Ccr c) = c.header
header_of (Cca c) = c.header
header_of (ErrorAnswer c) = c.header

-- the AVPs that no field holds
abbrev pub rest_of : Command → List Avp
rest_of (Cer c) = c.rest
rest_of (Cea c) = c.rest
rest_of (Dwr c) = c.rest
rest_of (Dwa c) = c.rest
rest_of (Dpr c) = c.rest
rest_of (Dpa c) = c.rest
rest_of (Rar c) = c.rest
rest_of (Raa c) = c.rest
rest_of (Ccr c) = c.rest
rest_of (Cca c) = c.rest
rest_of (ErrorAnswer c) = c.rest

-- the fields of a command, in the order of its format
abbrev pub fields : Command → List Field
fields (Cer c) =
    Octets (c.origin_host ∷ [])
    ∷ Octets (c.origin_realm ∷ [])
    ∷ Octets c.host_ip_address
    ∷ Numbers (c.vendor_id ∷ [])
    ∷ Octets (c.product_name ∷ [])
    ∷ Numbers c.auth_application_id
    ∷ []
fields (Cea c) =
    Numbers (c.result_code ∷ [])
    ∷ Octets (c.origin_host ∷ [])
    ∷ Octets (c.origin_realm ∷ [])
    ∷ Octets c.host_ip_address
    ∷ Numbers (c.vendor_id ∷ [])
    ∷ Octets (c.product_name ∷ [])
    ∷ Numbers c.auth_application_id
    ∷ []
fields (Dwr c) =
    Octets (c.origin_host ∷ [])
    ∷ Octets (c.origin_realm ∷ [])
    ∷ []
fields (Dwa c) =
    Numbers (c.result_code ∷ [])
    ∷ Octets (c.origin_host ∷ [])
    ∷ Octets (c.origin_realm ∷ [])
    ∷ []
fields (Dpr c) =
    Octets (c.origin_host ∷ [])
    ∷ Octets (c.origin_realm ∷ [])
    ∷ Numbers (c.disconnect_cause ∷ [])
    ∷ []
fields (Dpa c) =
    Numbers (c.result_code ∷ [])
    ∷ Octets (c.origin_host ∷ [])
    ∷ Octets (c.origin_realm ∷ [])
    ∷ []
fields (Rar c) =
    Octets (c.session_id ∷ [])
    ∷ Octets (c.origin_host ∷ [])
    ∷ Octets (c.origin_realm ∷ [])
    ∷ Octets (c.destination_realm ∷ [])
    ∷ Octets (c.destination_host ∷ [])
    ∷ Numbers (c.auth_application_id ∷ [])
    ∷ Numbers (c.re_auth_request_type ∷ [])
    ∷ []
fields (Raa c) =
    Octets (c.session_id ∷ [])
    ∷ Numbers (c.result_code ∷ [])
    ∷ Octets (c.origin_host ∷ [])
    ∷ Octets (c.origin_realm ∷ [])
    ∷ []
fields (Ccr c) =
    Octets (c.session_id ∷ [])
    ∷ Octets (c.origin_host ∷ [])
    ∷ Octets (c.origin_realm ∷ [])
    ∷ Octets (c.destination_realm ∷ [])
    ∷ Numbers (c.auth_application_id ∷ [])
    ∷ Octets (c.service_context_id ∷ [])
    ∷ Types (c.cc_request_type ∷ [])
    ∷ Numbers (c.cc_request_number ∷ [])
    ∷ Groups c.subscription_id
    ∷ Actions (option_to_list c.requested_action)
    ∷ Groups (option_to_list c.requested_service_unit)
    ∷ Groups c.used_service_unit
    ∷ Numbers (option_to_list c.multiple_services_indicator)
    ∷ Groups c.multiple_services_credit_control
    ∷ []
fields (Cca c) =
    Octets (c.session_id ∷ [])
    ∷ Numbers (c.result_code ∷ [])
    ∷ Octets (c.origin_host ∷ [])
    ∷ Octets (c.origin_realm ∷ [])
    ∷ Numbers (c.auth_application_id ∷ [])
    ∷ Types (c.cc_request_type ∷ [])
    ∷ Numbers (c.cc_request_number ∷ [])
    ∷ Groups (option_to_list c.granted_service_unit)
    ∷ Groups (option_to_list c.final_unit_indication)
    ∷ Numbers (option_to_list c.check_balance_result)
    ∷ Groups c.multiple_services_credit_control
    ∷ []
fields (ErrorAnswer c) =
    Octets (option_to_list c.session_id)
    ∷ Octets (c.origin_host ∷ [])
    ∷ Octets (c.origin_realm ∷ [])
    ∷ Numbers (c.result_code ∷ [])
    ∷ Octets (option_to_list c.failed_avp)
    ∷ []

-- all AVPs as they are written: those of the fields by the command's format, then the rest
abbrev pub avps_of : Command → List Avp
avps_of command = avps_by (format_of (kind_of command) false) (fields command) ++ rest_of command

-- the command with another Message Length in its header
abbrev pub with_length : ℕ → Command → Command
with_length len (Cer c) = Cer (record c { header = record c.header { length = len } })
with_length len (Cea c) = Cea (record c { header = record c.header { length = len } })
with_length len (Dwr c) = Dwr (record c { header = record c.header { length = len } })
with_length len (Dwa c) = Dwa (record c { header = record c.header { length = len } })
with_length len (Dpr c) = Dpr (record c { header = record c.header { length = len } })
with_length len (Dpa c) = Dpa (record c { header = record c.header { length = len } })
with_length len (Rar c) = Rar (record c { header = record c.header { length = len } })
with_length len (Raa c) = Raa (record c { header = record c.header { length = len } })
with_length len (Ccr c) = Ccr (record c { header = record c.header { length = len } })
with_length len (Cca c) = Cca (record c { header = record c.header { length = len } })
with_length len (ErrorAnswer c) = ErrorAnswer (record c { header = record c.header { length = len } })
