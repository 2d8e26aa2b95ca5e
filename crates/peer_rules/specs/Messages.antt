-- The messages that the deeds of a peer's machine send (RFC 6733 sections 5.3 to 5.5).
use Rattle.std.specs.Prelude.{ℕ, false, List, [], ◌∷◌, Option, Some, None, codes, slice_index}
use Rattle.std.specs.Option.{option_and_then}
use Rattle.base_codes.specs.declared.deed_code.DeedCode.{DeedCode}
use Rattle.base_codes.specs.declared.deed_code.DeedCode.TheVariants.{SndCer, SndCea, SndDwa, SndDpr, SndDpa}
use Rattle.base_codes.specs.DeedCodes.{coded}
use Rattle.base_codes.specs.declared.command_code.CommandCode.{CommandCode}
use Rattle.base_codes.specs.declared.command_code.CommandCode.TheVariants.{CapabilitiesExchange, DeviceWatchdog}
use Rattle.base_codes.specs.declared.command_code.CommandCode.TheVariants.{DisconnectPeer}
use Rattle.deed_message.specs.Headers.{lowest, request_header, answer_header}
use Rattle.dia_command.specs.declared.typed.TypedAvp.{TypedAvp}
use Rattle.dia_write.specs.declared.answer.Identity.{Identity}
use Rattle.dia_write.specs.Answer.{made}
use Rattle.dia_command.specs.declared.header.Header.{Header}
use Rattle.dia_command.specs.declared.command.Command.{Command}
use Rattle.dia_command.specs.declared.command.Command.TheVariants.{Cer, Cea, Dwa, Dpr, Dpa}
use Rattle.tab_law.specs.declared.scene.Deed.{Deed}

-- the header of a request and of an answer that a deed with these arguments sends
abbrev pub request_by : CommandCode → List ℕ → Header
request_by command a = request_header command (slice_index a 2) (slice_index a 3)

abbrev pub answer_by : CommandCode → List ℕ → Header
answer_by command a = answer_header command false (slice_index a 2) (slice_index a 3)

-- the Host-IP-Address of a node: family 1, IPv4, and its four octets (RFC 6733 section 4.3.1)
abbrev pub address_of : Identity → List ℕ
address_of me = 0 ∷ 1 ∷ me.address

-- the Product-Name of this project, which has no flag M (RFC 6733 section 5.3.7)
abbrev pub product_name : TypedAvp (List ℕ)
product_name = record { mandatory = false; protected = false; value = codes "dbench" }

-- the message of a deed, by its arguments
abbrev pub message_by : Identity → List ℕ → DeedCode → Option Command
message_by me a SndCer = Some (Cer (record {
  header = request_by CapabilitiesExchange a;
  origin_host = made me.host;
  origin_realm = made me.realm;
  host_ip_address = made (address_of me) ∷ [];
  vendor_id = made 0;
  product_name = product_name;
  auth_application_id = made 4 ∷ [];
  rest = [];
}))
message_by me a SndCea = Some (Cea (record {
  header = answer_by CapabilitiesExchange a;
  result_code = made (lowest (slice_index a 4));
  origin_host = made me.host;
  origin_realm = made me.realm;
  host_ip_address = made (address_of me) ∷ [];
  vendor_id = made 0;
  product_name = product_name;
  auth_application_id = made 4 ∷ [];
  rest = [];
}))
message_by me a SndDwa = Some (Dwa (record {
  header = answer_by DeviceWatchdog a;
  result_code = made (lowest (slice_index a 4));
  origin_host = made me.host;
  origin_realm = made me.realm;
  rest = [];
}))
message_by me a SndDpr = Some (Dpr (record {
  header = request_by DisconnectPeer a;
  origin_host = made me.host;
  origin_realm = made me.realm;
  disconnect_cause = made 0;
  rest = [];
}))
message_by me a SndDpa = Some (Dpa (record {
  header = answer_by DisconnectPeer a;
  result_code = made (lowest (slice_index a 4));
  origin_host = made me.host;
  origin_realm = made me.realm;
  rest = [];
}))
message_by me a code = None

-- the message of a deed, if it sends one of a peer's machine
abbrev pub message_of : Identity → Deed → Option Command
message_of me deed = option_and_then (message_by me deed.a) (coded deed.code)
