-- The messages of credit control that a Snd-Msg deed sends (RFC 8506 sections 3.1 and 3.2, RFC 6733 section 7.2).
use Rattle.std.specs.Prelude.{ℕ, ◌-◌, ◌/◌, ◌==◌, ◌&&◌, not, Bool, List, [], ◌∷◌, length, Option, None, Some}
use Rattle.std.specs.Prelude.{codes, slice_index, if◌then◌else◌}
use Rattle.std.specs.Option.{option_map, option_to_list}
use Rattle.std.specs.Str.{is_utf8}
use Rattle.base_codes.specs.declared.session_fact.TheConstants.{HOP_BY_HOP, END_TO_END, CLASS, REQUEST_TYPE}
use Rattle.base_codes.specs.declared.session_fact.TheConstants.{REQUEST_NUMBER, ACCOUNT, USED, WANT, UNIT}
use Rattle.base_codes.specs.declared.session_fact.TheConstants.{ACTION_OR_CHECK, RESULT_CODE, GRANTED, FINAL, SERVICES}
use Rattle.base_codes.specs.declared.deed_code.DeedCode.TheVariants.{SndMsg}
use Rattle.base_codes.specs.DeedCodes.{number_of}
use Rattle.base_codes.specs.declared.command_code.CommandCode.TheVariants.{CreditControl}
use Rattle.deed_message.specs.Headers.{lowest, request_header, answer_header}
use Rattle.dia_avp.specs.declared.avp.Avp.{Avp}
use Rattle.dia_command.specs.declared.command.Command.{Command}
use Rattle.dia_command.specs.declared.command.Command.TheVariants.{Ccr, Cca, ErrorAnswer}
use Rattle.dia_command.specs.declared.typed.TypedAvp.{TypedAvp}
use Rattle.dia_command.specs.declared.value.RequestType.{RequestType}
use Rattle.dia_command.specs.declared.value.RequestType.TheVariants.{Initial, Event}
use Rattle.dia_command.specs.declared.value.RequestedAction.{RequestedAction}
use Rattle.dia_command.specs.Value.{type_coded, action_coded}
use Rattle.dia_write.specs.declared.answer.Identity.{Identity}
use Rattle.dia_write.specs.Answer.{made}
use Rattle.tab_law.specs.declared.scene.Deed.{Deed}
use Rattle.charge_message.specs.Avps.{units_field, termination, subscription}
use Rattle.charge_message.specs.Services.{asked, answered, services}

-- a number of four octets whose argument is one more than it; 0 stands for 0
unfoldable pub one_less : ℕ → ℕ
one_less argument = lowest (argument - 1)

-- a number whose argument is one more than it, and which is absent where that is 0
abbrev pub if_any : ℕ → Option (TypedAvp ℕ)
if_any argument = if argument == 0 then None else Some (made (one_less argument))

-- Requested-Action stands in EVENT requests (RFC 8506 section 8.41)
abbrev pub action_by : RequestType → ℕ → Option (TypedAvp RequestedAction)
action_by Event argument = Some (made (action_coded (one_less argument)))
action_by type argument = None

-- Multiple-Services-Indicator is 1 in an INITIAL request with services (RFC 8506 section 8.40)
abbrev pub indicator_by : RequestType → ℕ → Option (TypedAvp ℕ)
indicator_by Initial services = if services == 0 then None else Some (made 1)
indicator_by type services = None

-- the request of a session, of a type, that a deed with these arguments sends
unfoldable pub request_of : Identity → List ℕ → List ℕ → RequestType → Command
request_of me session a type = Ccr (record {
  header = request_header CreditControl (slice_index a HOP_BY_HOP) (slice_index a REQUEST_NUMBER - 1);
  session_id = made session;
  origin_host = made me.host;
  origin_realm = made me.realm;
  destination_realm = made me.realm;
  auth_application_id = made 4;
  service_context_id = made (codes "dbench@example");
  cc_request_type = made type;
  cc_request_number = made (one_less (slice_index a REQUEST_NUMBER));
  subscription_id = made (subscription (slice_index a ACCOUNT)) ∷ [];
  requested_action = action_by type (slice_index a ACTION_OR_CHECK);
  requested_service_unit = units_field (slice_index a UNIT) (slice_index a WANT);
  used_service_unit = option_to_list (units_field (slice_index a UNIT) (slice_index a USED));
  multiple_services_indicator = indicator_by type (slice_index a SERVICES);
  multiple_services_credit_control = services asked a;
  rest = [];
})

-- a Result-Code of four octets is a protocol error, 3xxx (RFC 6733 section 7.1.3)
unfoldable pub is_protocol_error : ℕ → Bool
is_protocol_error code = lowest code / 1000 == 3

-- the Final-Unit-Indication of an answer, where units are granted and are the last (RFC 8506 section 8.34)
abbrev pub final_field : ℕ → ℕ → Option (TypedAvp (List Avp))
final_field last granted = if (last == 1) && not (granted == 0) then Some (made termination) else None

-- the answer to a request of a type
unfoldable pub answer_of : Identity → List ℕ → List ℕ → RequestType → Command
answer_of me session a type = Cca (record {
  header = answer_header CreditControl (is_protocol_error (slice_index a RESULT_CODE)) (slice_index a HOP_BY_HOP)
      (slice_index a END_TO_END);
  session_id = made session;
  result_code = made (lowest (slice_index a RESULT_CODE));
  origin_host = made me.host;
  origin_realm = made me.realm;
  auth_application_id = made 4;
  cc_request_type = made type;
  cc_request_number = made (one_less (slice_index a REQUEST_NUMBER));
  granted_service_unit = units_field (slice_index a UNIT) (slice_index a GRANTED);
  final_unit_indication = final_field (slice_index a FINAL) (slice_index a GRANTED);
  check_balance_result = if_any (slice_index a ACTION_OR_CHECK);
  multiple_services_credit_control = services answered a;
  rest = [];
})

-- the answer that tells a fault by its Result-Code alone
unfoldable pub fault_of : Identity → List ℕ → List ℕ → Command
fault_of me session a = ErrorAnswer (record {
  header = answer_header CreditControl (is_protocol_error (slice_index a RESULT_CODE)) (slice_index a HOP_BY_HOP)
      (slice_index a END_TO_END);
  session_id = Some (made session);
  origin_host = made me.host;
  origin_realm = made me.realm;
  result_code = made (lowest (slice_index a RESULT_CODE));
  failed_avp = None;
  rest = [];
})

-- whether octets are the name of a session: UTF-8, and at least one
unfoldable pub is_session : List ℕ → Bool
is_session session = is_utf8 session && not (length session == 0)

-- the class of the message that a Snd-Msg deed sends, 1 a request, 2 an answer,
-- 3 one that tells a fault; 0 for any other deed
unfoldable pub class_of : Deed → ℕ
class_of deed = if deed.code == number_of SndMsg then slice_index deed.a CLASS else 0

-- the type that a deed's message is of, where there is such a type
unfoldable pub type_of : Deed → Option RequestType
type_of deed = type_coded (slice_index deed.a REQUEST_TYPE)

-- the request that a deed sends, if it sends one
abbrev pub request_by : Identity → List ℕ → Deed → Option Command
request_by me session deed =
    if (class_of deed == 1) && is_session session
    then option_map (request_of me session deed.a) (type_of deed) else None

-- the answer that a deed sends, if it sends one
abbrev pub answer_by : Identity → List ℕ → Deed → Option Command
answer_by me session deed =
    if (class_of deed == 2) && is_session session then option_map (answer_of me session deed.a) (type_of deed)
    else if (class_of deed == 3) && is_session session then Some (fault_of me session deed.a)
    else None
