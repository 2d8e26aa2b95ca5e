-- Which form of values each field of a command has, and the command of its fields.
use Rattle.std.specs.Prelude.{List, [], ◌∷◌, slice_get, Option, None, Some}
use Rattle.dia_avp.specs.declared.avp.Avp.{Avp}
use Rattle.dia_command.specs.declared.command.Command.{Command}
use Rattle.dia_command.specs.declared.command.Command.TheVariants.{Cer, Cea, Dwr, Dwa, Dpr, Dpa, Rar, Raa}
use Rattle.dia_command.specs.declared.command.Command.TheVariants.{Ccr, Cca, ErrorAnswer}
use Rattle.dia_command.specs.declared.header.Header.{Header}
use Rattle.dia_command.specs.declared.kind.CommandKind.{CommandKind}
use Rattle.dia_command.specs.declared.kind.CommandKind.TheVariants as kinds
use Rattle.dia_command.specs.Field.{Field, Octets, Numbers, Types, Actions, Groups}

-- what the values of a field are
pub data Form : Type 0 where
  OfOctets : Form
  OfNumbers : Form
  OfTypes : Form
  OfActions : Form
  OfGroups : Form

abbrev pub form_of : Field → Form
form_of (Octets values) = OfOctets
form_of (Numbers values) = OfNumbers
form_of (Types values) = OfTypes
form_of (Actions values) = OfActions
form_of (Groups values) = OfGroups

-- what the fields of a command are, in the order of its format
abbrev pub forms : CommandKind → List Form
forms kinds.CapabilitiesExchangeRequest = OfOctets ∷ OfOctets ∷ OfOctets ∷ OfNumbers ∷ OfOctets ∷ OfNumbers ∷ []
forms kinds.CapabilitiesExchangeAnswer =
    OfNumbers ∷ OfOctets ∷ OfOctets ∷ OfOctets ∷ OfNumbers ∷ OfOctets ∷ OfNumbers ∷ []
forms kinds.DeviceWatchdogRequest = OfOctets ∷ OfOctets ∷ []
forms kinds.DeviceWatchdogAnswer = OfNumbers ∷ OfOctets ∷ OfOctets ∷ []
forms kinds.DisconnectPeerRequest = OfOctets ∷ OfOctets ∷ OfNumbers ∷ []
forms kinds.DisconnectPeerAnswer = OfNumbers ∷ OfOctets ∷ OfOctets ∷ []
forms kinds.ReAuthRequest = OfOctets ∷ OfOctets ∷ OfOctets ∷ OfOctets ∷ OfOctets ∷ OfNumbers ∷ OfNumbers ∷ []
forms kinds.ReAuthAnswer = OfOctets ∷ OfNumbers ∷ OfOctets ∷ OfOctets ∷ []
forms kinds.CreditControlRequest =
    OfOctets ∷ OfOctets ∷ OfOctets ∷ OfOctets ∷ OfNumbers ∷ OfOctets ∷ OfTypes ∷ OfNumbers ∷ OfGroups ∷ OfActions
    ∷ OfGroups ∷ OfGroups ∷ OfNumbers ∷ OfGroups ∷ []
forms kinds.CreditControlAnswer =
    OfOctets ∷ OfNumbers ∷ OfOctets ∷ OfOctets ∷ OfNumbers ∷ OfTypes ∷ OfNumbers ∷ OfGroups ∷ OfGroups ∷ OfNumbers
    ∷ OfGroups ∷ []
forms kinds.ErrorAnswer = OfOctets ∷ OfOctets ∷ OfOctets ∷ OfNumbers ∷ OfOctets ∷ []

-- the command of a kind with this header, these fields and this rest, where they are a command's
unfoldable pub command_of : CommandKind → Header → List Field → List Avp → Option Command
command_of kinds.CapabilitiesExchangeRequest header
    (Octets (origin_host ∷ []) ∷ Octets (origin_realm ∷ []) ∷ Octets host_ip_address ∷ Numbers (vendor_id ∷ [])
    ∷ Octets (product_name ∷ []) ∷ Numbers auth_application_id ∷ [])
    rest =
    Some (Cer (record {
      header = header;
      origin_host = origin_host;
      origin_realm = origin_realm;
      host_ip_address = host_ip_address;
      vendor_id = vendor_id;
      product_name = product_name;
      auth_application_id = auth_application_id;
      rest = rest;
    }))
command_of kinds.CapabilitiesExchangeAnswer header
    (Numbers (result_code ∷ []) ∷ Octets (origin_host ∷ []) ∷ Octets (origin_realm ∷ []) ∷ Octets host_ip_address
    ∷ Numbers (vendor_id ∷ []) ∷ Octets (product_name ∷ []) ∷ Numbers auth_application_id ∷ [])
    rest =
    Some (Cea (record {
      header = header;
      result_code = result_code;
      origin_host = origin_host;
      origin_realm = origin_realm;
      host_ip_address = host_ip_address;
      vendor_id = vendor_id;
      product_name = product_name;
      auth_application_id = auth_application_id;
      rest = rest;
    }))
command_of kinds.DeviceWatchdogRequest header
    (Octets (origin_host ∷ []) ∷ Octets (origin_realm ∷ []) ∷ [])
    rest =
    Some (Dwr (record {
      header = header;
      origin_host = origin_host;
      origin_realm = origin_realm;
      rest = rest;
    }))
command_of kinds.DeviceWatchdogAnswer header
    (Numbers (result_code ∷ []) ∷ Octets (origin_host ∷ []) ∷ Octets (origin_realm ∷ []) ∷ [])
    rest =
    Some (Dwa (record {
      header = header;
      result_code = result_code;
      origin_host = origin_host;
      origin_realm = origin_realm;
      rest = rest;
    }))
command_of kinds.DisconnectPeerRequest header
    (Octets (origin_host ∷ []) ∷ Octets (origin_realm ∷ []) ∷ Numbers (disconnect_cause ∷ []) ∷ [])
    rest =
    Some (Dpr (record {
      header = header;
      origin_host = origin_host;
      origin_realm = origin_realm;
      disconnect_cause = disconnect_cause;
      rest = rest;
    }))
command_of kinds.DisconnectPeerAnswer header
    (Numbers (result_code ∷ []) ∷ Octets (origin_host ∷ []) ∷ Octets (origin_realm ∷ []) ∷ [])
    rest =
    Some (Dpa (record {
      header = header;
      result_code = result_code;
      origin_host = origin_host;
      origin_realm = origin_realm;
      rest = rest;
    }))
command_of kinds.ReAuthRequest header
    (Octets (session_id ∷ []) ∷ Octets (origin_host ∷ []) ∷ Octets (origin_realm ∷ [])
    ∷ Octets (destination_realm ∷ []) ∷ Octets (destination_host ∷ []) ∷ Numbers (auth_application_id ∷ [])
    ∷ Numbers (re_auth_request_type ∷ []) ∷ [])
    rest =
    Some (Rar (record {
      header = header;
      session_id = session_id;
      origin_host = origin_host;
      origin_realm = origin_realm;
      destination_realm = destination_realm;
      destination_host = destination_host;
      auth_application_id = auth_application_id;
      re_auth_request_type = re_auth_request_type;
      rest = rest;
    }))
command_of kinds.ReAuthAnswer header
    (Octets (session_id ∷ []) ∷ Numbers (result_code ∷ []) ∷ Octets (origin_host ∷ []) ∷ Octets (origin_realm ∷ [])
    ∷ [])
    rest =
    Some (Raa (record {
      header = header;
      session_id = session_id;
      result_code = result_code;
      origin_host = origin_host;
      origin_realm = origin_realm;
      rest = rest;
    }))
command_of kinds.CreditControlRequest header
    (Octets (session_id ∷ []) ∷ Octets (origin_host ∷ []) ∷ Octets (origin_realm ∷ [])
    ∷ Octets (destination_realm ∷ []) ∷ Numbers (auth_application_id ∷ []) ∷ Octets (service_context_id ∷ [])
    ∷ Types (cc_request_type ∷ []) ∷ Numbers (cc_request_number ∷ []) ∷ Groups subscription_id
    ∷ Actions requested_action ∷ Groups requested_service_unit ∷ Groups used_service_unit
    ∷ Numbers multiple_services_indicator ∷ Groups multiple_services_credit_control ∷ [])
    rest =
    Some (Ccr (record {
      header = header;
      session_id = session_id;
      origin_host = origin_host;
      origin_realm = origin_realm;
      destination_realm = destination_realm;
      auth_application_id = auth_application_id;
      service_context_id = service_context_id;
      cc_request_type = cc_request_type;
      cc_request_number = cc_request_number;
      subscription_id = subscription_id;
      requested_action = slice_get requested_action 0;
      requested_service_unit = slice_get requested_service_unit 0;
      used_service_unit = used_service_unit;
      multiple_services_indicator = slice_get multiple_services_indicator 0;
      multiple_services_credit_control = multiple_services_credit_control;
      rest = rest;
    }))
command_of kinds.CreditControlAnswer header
    (Octets (session_id ∷ []) ∷ Numbers (result_code ∷ []) ∷ Octets (origin_host ∷ []) ∷ Octets (origin_realm ∷ [])
    ∷ Numbers (auth_application_id ∷ []) ∷ Types (cc_request_type ∷ []) ∷ Numbers (cc_request_number ∷ [])
    ∷ Groups granted_service_unit ∷ Groups final_unit_indication ∷ Numbers check_balance_result
    ∷ Groups multiple_services_credit_control ∷ [])
    rest =
    Some (Cca (record {
      header = header;
      session_id = session_id;
      result_code = result_code;
      origin_host = origin_host;
      origin_realm = origin_realm;
      auth_application_id = auth_application_id;
      cc_request_type = cc_request_type;
      cc_request_number = cc_request_number;
      granted_service_unit = slice_get granted_service_unit 0;
      final_unit_indication = slice_get final_unit_indication 0;
      check_balance_result = slice_get check_balance_result 0;
      multiple_services_credit_control = multiple_services_credit_control;
      rest = rest;
    }))
command_of kinds.ErrorAnswer header
    (Octets session_id ∷ Octets (origin_host ∷ []) ∷ Octets (origin_realm ∷ []) ∷ Numbers (result_code ∷ [])
    ∷ Octets failed_avp ∷ [])
    rest =
    Some (ErrorAnswer (record {
      header = header;
      session_id = slice_get session_id 0;
      origin_host = origin_host;
      origin_realm = origin_realm;
      result_code = result_code;
      failed_avp = slice_get failed_avp 0;
      rest = rest;
    }))
command_of kind header fields rest = None
